-- Which cycle profile a text states, and its faults, of which the lowest over the whole text is answered
-- (over the documents of TOML).
use Rattle.std.specs.Prelude.{◌≡◌, ◌⊎◌, ℕ, List, [], ◌∷◌, codes, Ok, Err}
use Rattle.toml.specs.Data.{Data, Members, get_member}
use Rattle.bus_ticks.specs.Ranges.{AreInRange, AreOrdered}
use Rattle.toml_reading.specs.Documents.{IsDocument, IsNoDocument, items_at, of_keys}
use Rattle.toml_reading.specs.Readings.{Reading, pair, required, reading_map}
use Rattle.machine_file.specs.ProfileFaults.{profile_faults}
use Rattle.machine_file.specs.Words.{word_at, word_in}
use Rattle.machine_file.specs.declared.profile_faults.ProfileFileFault.{ProfileFileFault}
use Rattle.machine_file.specs.declared.profile_faults.ProfileFileFault.TheVariants.{NotToml, WrongKind}
use Rattle.machine_file.specs.declared.profile_faults.ProfileFileFault.TheVariants.{OutOfRange, Disordered}

abbrev pub Read : Type 0 → Type 0
Read A = Reading ProfileFileFault A

abbrev pub profile_keys : List (List ℕ)
profile_keys =
    codes "n" ∷ codes "s" ∷ codes "quad" ∷ codes "rom" ∷ codes "io" ∷ codes "control" ∷ codes "unfitted"
    ∷ codes "internal" ∷ codes "burst" ∷ []

-- ## Prices

abbrev pub Four : Type 0
Four = (ℕ × ℕ) × (ℕ × ℕ)

abbrev pub four_of : List Data → Read Four
four_of (a ∷ b ∷ c ∷ d ∷ []) =
    pair profile_faults (pair profile_faults (word_at profile_faults a) (word_at profile_faults b))
    (pair profile_faults (word_at profile_faults c) (word_at profile_faults d))
four_of _ = Err WrongKind

abbrev pub four_at : Data → Read Four
four_at d = required profile_faults (items_at d) four_of

-- a list of four numbers
abbrev pub four_in : List ℕ → Members → Read Four
four_in key ms = required profile_faults (get_member key ms) four_at

abbrev pub ram_prices_in : Members → Read (ℕ × (ℕ × ℕ))
ram_prices_in ms =
    pair profile_faults (word_in profile_faults (codes "n") ms)
    (pair profile_faults (word_in profile_faults (codes "s") ms) (word_in profile_faults (codes "quad") ms))

abbrev pub other_prices_in : Members → Read Four
other_prices_in ms =
    pair
    profile_faults
    (pair profile_faults (word_in profile_faults (codes "control") ms)
    (word_in profile_faults (codes "unfitted") ms))
    (pair profile_faults (word_in profile_faults (codes "internal") ms)
    (word_in profile_faults (codes "burst") ms))

-- ## The fifteen numbers

abbrev pub Parts : Type 0
Parts = ((ℕ × (ℕ × ℕ)) × (Four × Four)) × Four

abbrev pub parts_in : Members → Read Parts
parts_in ms =
    pair
    profile_faults
    (pair profile_faults (ram_prices_in ms)
    (pair profile_faults (four_in (codes "rom") ms) (four_in (codes "io") ms)))
    (other_prices_in ms)

abbrev pub listed_after : Four → List ℕ → List ℕ
listed_after f rest = f.0.0 ∷ f.0.1 ∷ f.1.0 ∷ f.1.1 ∷ rest

-- n, s, quad, ROM by time field, slow, medium, fast and synchronous devices, control, unfitted, internal,
-- burst
abbrev pub joined : Parts → List ℕ
joined p = p.0.0.0 ∷ p.0.0.1.0 ∷ p.0.0.1.1 ∷ listed_after p.0.1.0 (listed_after p.0.1.1 (listed_after p.1 []))

abbrev pub numbers_in : Members → Read (List ℕ)
numbers_in ms = reading_map joined (of_keys profile_faults profile_keys ms (parts_in ms))

-- ## The profile

-- numbers that are no profile are out of range, or else not in order
abbrev pub IsPriced : Read (List ℕ) → Read (List ℕ) → Type 0
IsPriced (Ok numbers) answer =
    (AreInRange numbers → AreOrdered numbers → answer ≡ Ok numbers)
    × (¬ AreInRange numbers → answer ≡ Err OutOfRange)
    × (AreInRange numbers → ¬ AreOrdered numbers → answer ≡ Err Disordered)
IsPriced (Err fault) answer = answer ≡ Err fault

-- the numbers of the profile of a text, or its fault, but for lack of memory
abbrev pub IsProfileFile : List ℕ → Read (List ℕ) → Type 0
IsProfileFile text answer =
    ((ms : Members) × IsDocument text ms × IsPriced (numbers_in ms) answer)
    ⊎ (IsNoDocument text × (answer ≡ Err NotToml))
