-- What an output took, and how often it failed.
use Rattle.std.specs.Prelude.{◌≡◌, ◌⊎◌, ℕ, ◌+◌, ◌-◌, ◌^◌, ◌<◌, ◌≤◌, ◌==◌, ◌&&◌, min, List, length, take}
use Rattle.std.specs.Prelude.{Option, Result, Ok, Err, Bool, true, not, if◌then◌else◌}
use Rattle.std.specs.Io.KnownBytes.{Appends}

-- the count stays at its greatest value
abbrev pub most_failures : ℕ
most_failures = 2 ^ 64 - 1

-- one more failure
abbrev pub failed_once : ℕ → ℕ
failed_once n = min (n + 1) most_failures

-- a write fails by an error, or where it takes nothing of a slice that is not empty
abbrev pub is_failure : {E : Type 0} → Result ℕ E → List ℕ → Bool
is_failure (Ok n) bytes = n == 0 && not (length bytes == 0)
is_failure (Err e) bytes = true

-- the count after a write
abbrev pub failures_after : {E : Type 0} → Result ℕ E → List ℕ → ℕ → ℕ
failures_after r bytes n = if is_failure r bytes then failed_once n else n

-- the output took a front of the text and no other byte
abbrev pub TakesFront : Option (List ℕ) → Option (List ℕ) → List ℕ → Type 0
TakesFront old new text = (n : ℕ) × (n ≤ length text) × Appends old new (take n text)

-- the output failed since, as far as its count can say
abbrev pub FailsSince : ℕ → ℕ → Type 0
FailsSince old new = (old < new) ⊎ (new ≡ most_failures)
