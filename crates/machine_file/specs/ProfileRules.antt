-- What a cycle profile file states, key by key, and which faults it has (over the documents of TOML).
use Rattle.std.specs.Prelude.{◌≡◌, ◌≢◌, ◌⊎◌, ◌-◌, ◌^◌, ⊤, ℕ, true, false, List, [], ◌∷◌, length, codes, Any}
use Rattle.std.specs.Prelude.{None, IsSomeAnd, MatchOption}
use Rattle.toml.specs.Data.{Data, Members, as_integer, get_member}
use Rattle.bus_ticks.specs.Ranges.{AreInRange, AreOrdered}
use Rattle.toml_reading.specs.Documents.{has_only_keys, items_at}
use Rattle.toml_reading.specs.Lowest.{AtKey, IsListOf, IsOutside}
use Rattle.machine_file.specs.ProfileFile.{profile_keys}
use Rattle.machine_file.specs.Words.{IsWord}
use Rattle.machine_file.specs.declared.profile_faults.ProfileFileFault.{ProfileFileFault}
use Rattle.machine_file.specs.declared.profile_faults.ProfileFileFault.TheVariants.{UnknownKey, WrongKind}
use Rattle.machine_file.specs.declared.profile_faults.ProfileFileFault.TheVariants.{OutOfRange, Disordered}

-- ## What the file states

-- the fifteen numbers at the nine keys, all of which are required
abbrev pub StatesNumbers : Members → List ℕ → Type 0
StatesNumbers ms
    (n ∷ s ∷ quad ∷ rom_0 ∷ rom_1 ∷ rom_2 ∷ rom_3 ∷ slow ∷ medium ∷ fast ∷ synchronous ∷ control ∷ unfitted
    ∷ internal ∷ burst ∷ []) =
    AtKey (codes "n") ms (λ d. IsWord d n)
    × AtKey (codes "s") ms (λ d. IsWord d s)
    × AtKey (codes "quad") ms (λ d. IsWord d quad)
    × AtKey (codes "rom") ms (λ d. IsListOf IsWord d (rom_0 ∷ rom_1 ∷ rom_2 ∷ rom_3 ∷ []))
    × AtKey (codes "io") ms (λ d. IsListOf IsWord d (slow ∷ medium ∷ fast ∷ synchronous ∷ []))
    × AtKey (codes "control") ms (λ d. IsWord d control)
    × AtKey (codes "unfitted") ms (λ d. IsWord d unfitted)
    × AtKey (codes "internal") ms (λ d. IsWord d internal)
    × AtKey (codes "burst") ms (λ d. IsWord d burst)
StatesNumbers ms _ = ⊥

-- a profile: no other keys, and numbers that are in range and in order
pub record StatesProfile (ms : Members) (numbers : List ℕ) : Type 0 where
  pub known : has_only_keys profile_keys ms ≡ true
  pub numbers_stated : StatesNumbers ms numbers
  pub in_range : AreInRange numbers
  pub ordered : AreOrdered numbers

-- ## A missing key, or a value of the wrong kind

-- the keys that take one number, and those that take a list of four
abbrev pub number_keys : List (List ℕ)
number_keys =
    codes "n" ∷ codes "s" ∷ codes "quad" ∷ codes "control" ∷ codes "unfitted" ∷ codes "internal"
    ∷ codes "burst" ∷ []

abbrev pub list_keys : List (List ℕ)
list_keys = codes "rom" ∷ codes "io" ∷ []

abbrev pub LacksKey : Members → List (List ℕ) → Type 0
LacksKey ms keys = Any (λ key. get_member key ms ≡ None) keys

abbrev pub IsNoNumber : Data → Type 0
IsNoNumber d = as_integer d ≡ None

-- no list, or one of another length or with a value that is no number
abbrev pub AreNotFour : Data → Type 0
AreNotFour d = MatchOption (items_at d) ⊤ (λ ds. (length ds ≢ 4) ⊎ Any IsNoNumber ds)

abbrev pub HasWrongKind : Members → Type 0
HasWrongKind ms =
    (LacksKey ms number_keys ⊎ LacksKey ms list_keys)
    ⊎ Any (λ key. AtKey key ms IsNoNumber) number_keys
    ⊎ Any (λ key. AtKey key ms AreNotFour) list_keys

-- ## Numbers out of range or out of order

-- a number that has not 32 bits
abbrev pub IsOtherNumber : Data → Type 0
IsOtherNumber d = IsSomeAnd (as_integer d) (IsOutside (2 ^ 32 - 1))

abbrev pub HasOtherNumber : Members → Type 0
HasOtherNumber ms =
    Any (λ key. AtKey key ms IsOtherNumber) number_keys
    ⊎ Any (λ key. AtKey key ms (λ d. IsSomeAnd (items_at d) (Any IsOtherNumber))) list_keys

-- fifteen numbers that do not meet a condition
abbrev pub StatesUnfit : Members → (List ℕ → Type 0) → Type 0
StatesUnfit ms Holds = (numbers : List ℕ) × StatesNumbers ms numbers × (¬ Holds numbers)

-- ## The faults

abbrev pub HasProfileFault : Members → ProfileFileFault → Type 0
HasProfileFault ms fault =
    ((has_only_keys profile_keys ms ≡ false) × (fault ≡ UnknownKey))
    ⊎ (HasWrongKind ms × (fault ≡ WrongKind))
    ⊎ ((HasOtherNumber ms ⊎ StatesUnfit ms AreInRange) × (fault ≡ OutOfRange))
    ⊎ (StatesUnfit ms AreOrdered × (fault ≡ Disordered))
