-- Those of a list of which something holds.
use Rattle.std.specs.Prelude.{◌≡◌, ◌⊎◌, List, [], ◌∷◌, ◌++◌}

-- exactly those of the list of which it holds, in its order
abbrev pub Picks : {X : Type 0} → (X → Type 0) → List X → List X → Type 0
Picks {X} P [] found = found ≡ []
Picks {X} P (x ∷ xs) found =
    (P x × ((rest : List X) × Picks P xs rest × (found ≡ x ∷ rest))) ⊎ ((P x → ⊥) × Picks P xs found)

-- one more that may hold is taken where it does
abbrev pub Keeps : {X : Type 0} → (X → Type 0) → X → List X → List X → Type 0
Keeps P x old new = (P x × (new ≡ old ++ x ∷ [])) ⊎ ((P x → ⊥) × (new ≡ old))
