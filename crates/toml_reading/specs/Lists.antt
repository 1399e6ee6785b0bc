-- Lists of at most so many values: what they state, and their faults; and values that appear twice.
use Rattle.std.specs.Prelude.{◌≡◌, ◌<◌, ◌≤◌, ◌⊎◌, ℕ, List, [], ◌∷◌, length, Any, IsSomeAnd, MatchOption}
use Rattle.std.specs.List.{AllZip}
use Rattle.toml.specs.Data.{Data}
use Rattle.toml_reading.specs.Documents.{items_at}
use Rattle.toml_reading.specs.Readings.{Faults}

-- a list of at most so many values, which state those things, one each in their order
abbrev pub IsListUpTo : {A : Type 0} → ℕ → (Data → A → Type 0) → Data → List A → Type 0
IsListUpTo limit States d xs = IsSomeAnd (items_at d) (λ ds. (length ds ≤ limit) × AllZip States ds xs)

-- too many values, or the faults of each
abbrev pub ListUpToFault : {F : Type 0} → Faults F → ℕ → (Data → F → Type 0) → Data → F → Type 0
ListUpToFault faults limit Has d fault =
    MatchOption
    (items_at d)
    (fault ≡ faults.wrong_kind)
    (λ ds. ((limit < length ds) × (fault ≡ faults.out_of_range)) ⊎ Any (λ e. Has e fault) ds)

-- a value and a later one are of the same number
abbrev pub HasRepeat : (Data → ℕ → Type 0) → List Data → Type 0
HasRepeat Is [] = ⊥
HasRepeat Is (d ∷ ds) = ((n : ℕ) × Is d n × Any (λ e. Is e n) ds) ⊎ HasRepeat Is ds
