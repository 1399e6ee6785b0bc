-- Numbers of 32 bits, which both files hold, and numbers at keys that may be missing: what a value states,
-- and what is read of it.
use Rattle.std.specs.Prelude.{◌≡◌, ◌-◌, ◌^◌, ℕ, List, Option, Some, None, IsSomeAnd}
use Rattle.toml.specs.Data.{Data, Members, get_member}
use Rattle.toml_reading.specs.Documents.{number_at, number_in, number_or}
use Rattle.toml_reading.specs.Lowest.{AtKeyOr, IsNumber}
use Rattle.toml_reading.specs.Readings.{Faults, Reading, optional, reading_map}

-- a number of 32 bits
abbrev pub IsWord : Data → ℕ → Type 0
IsWord d n = IsNumber (2 ^ 32 - 1) d n

abbrev pub word_at : {F : Type 0} → Faults F → Data → Reading F ℕ
word_at faults d = number_at faults (2 ^ 32 - 1) d

abbrev pub word_in : {F : Type 0} → Faults F → List ℕ → Members → Reading F ℕ
word_in faults key ms = number_in faults key (2 ^ 32 - 1) ms

abbrev pub word_or : {F : Type 0} → Faults F → List ℕ → ℕ → Members → Reading F ℕ
word_or faults key missing ms = number_or faults key (2 ^ 32 - 1) missing ms

-- the number from 0 to a limit at a key, 0 where the key is missing
abbrev pub HasNumber : List ℕ → ℕ → Members → ℕ → Type 0
HasNumber key limit ms n = AtKeyOr key ms (n ≡ 0) (λ d. IsNumber limit d n)

-- such a number, where the key is there
abbrev pub MayHaveNumber : List ℕ → ℕ → Members → Option ℕ → Type 0
MayHaveNumber key limit ms o = AtKeyOr key ms (o ≡ None) (λ d. IsSomeAnd o (IsNumber limit d))

abbrev pub some_number_at : {F : Type 0} → Faults F → ℕ → Data → Reading F (Option ℕ)
some_number_at faults limit d = reading_map (λ n. Some n) (number_at faults limit d)

abbrev pub number_if : {F : Type 0} → Faults F → List ℕ → ℕ → Members → Reading F (Option ℕ)
number_if faults key limit ms = optional None (get_member key ms) (some_number_at faults limit)
