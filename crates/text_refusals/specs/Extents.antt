-- The extent of a cycle in the routine of its first place.
use Rattle.std.specs.Prelude.{◌≡◌, ◌⊎◌, ℕ, ◌≤◌, List, [], ◌∷◌, Contains}
use Rattle.control_flow.specs.declared.places.Place.TheVariants.{At, Exit}
use Rattle.control_flow.specs.declared.edges.Edge.{Edge}
use Rattle.text_refusals.specs.declared.extents.CycleExtent.{CycleExtent}

-- an edge of these leaves the address inside the calls
abbrev pub IsLeft : List Edge → List ℕ → ℕ → Type 0
IsLeft edges list a = (e : Edge) × Contains edges e × (e.from ≡ At list a)

-- the header is where the first edge begins; of the addresses that edges leave inside the same calls the
-- least is the first, and the greatest is the last
pub record IsExtentOf (edges : List Edge) (extent : CycleExtent) : Type 0 where
  pub list : List ℕ
  pub start : Edge
  pub rest : List Edge
  pub begins : edges ≡ start ∷ rest
  pub at : start.from ≡ At list extent.header
  pub least : IsLeft edges list extent.first
  pub greatest : IsLeft edges list extent.last
  pub within : (a : ℕ) → IsLeft edges list a → (extent.first ≤ a) × (a ≤ extent.last)

-- there is no edge, or the first begins at Exit
abbrev pub HasNoStart : List Edge → Type 0
HasNoStart [] = Unit {0}
HasNoStart (start ∷ rest) = start.from ≡ Exit

-- ## Edge by edge, which clauses of private calls speak of

-- the extent holds these addresses too, and ends at one of them where it ends elsewhere than before
pub record WidensTo (IsNew : ℕ → Type 0) (old new : CycleExtent) : Type 0 where
  pub header : new.header ≡ old.header
  pub first : (new.first ≡ old.first) ⊎ IsNew new.first
  pub last : (new.last ≡ old.last) ⊎ IsNew new.last
  pub low : new.first ≤ old.first
  pub high : old.last ≤ new.last
  pub within : (a : ℕ) → IsNew a → (new.first ≤ a) × (a ≤ new.last)
