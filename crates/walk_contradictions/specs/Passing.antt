-- How the outcomes are carried along a walk, from its first edge on or from its last one back. No part of
-- what is reported: clauses of private functions cite these.
use Rattle.std.specs.Prelude.{◌≡◌, ◌↔◌, ◌⊎◌, ℕ, Bool, true, false, if◌then◌else◌, List, [], ◌∷◌, reverse}
use Rattle.std.specs.Prelude.{slice_index_or, IfSome, IsTrue, Some}
use Rattle.arm2_decode.specs.Names.{cond_number}
use Rattle.arm2_decode.specs.Table.{Means}
use Rattle.arm2_decode.specs.declared.instr.Instr.{Instr}
use Rattle.control_flow.specs.Kinds.{IsAction}
use Rattle.control_flow.specs.declared.actions.Action.{Action}
use Rattle.control_flow.specs.declared.edges.Edge.{Edge}
use Rattle.image.specs.Image.{Words}
use Rattle.longest_walk.specs.Folded.{open_item}
use Rattle.longest_walk.specs.declared.folded.Item.{Item}
use Rattle.text_explained.specs.Taken.{is_at}
use Rattle.walk_contradictions.specs.Outcomes.{Exclude, MaySet, Tells, may_set_flags}
use Rattle.walk_contradictions.specs.declared.outcomes.Outcome.{Outcome}
use Rattle.walk_contradictions.specs.declared.outcomes.Outcomes.{Outcomes}
use Rattle.walk_contradictions.specs.declared.passing.Direction.{Direction}
use Rattle.walk_contradictions.specs.declared.passing.Direction.TheVariants.{Forward, Backward}
use Rattle.walk_contradictions.specs.declared.passing.Telling.{Telling}

-- the outcome is in the set
abbrev pub has : Outcomes → Outcome → Bool
has set o = slice_index_or (if o.holds then set.held else set.failed) (cond_number o.cond) false

abbrev pub In : Outcomes → Outcome → Type 0
In set o = has set o ≡ true

-- the set has exactly these
abbrev pub Has : Outcomes → (Outcome → Type 0) → Type 0
Has set B = (o : Outcome) → In set o ↔ B o

-- the set has the outcome of the condition with the number, which excludes another
pub record ExcludesBy (set : Outcomes) (other : Outcome) (number : ℕ) (holds : Bool) : Type 0 where
  pub one : Outcome
  pub numbered : cond_number one.cond ≡ number
  pub comes_out : one.holds ≡ holds
  pub among : has set one ≡ true
  pub excluded : Exclude one other

abbrev pub ExcludesAt : Outcomes → Outcome → ℕ → Type 0
ExcludesAt set other number = ExcludesBy set other number true ⊎ ExcludesBy set other number false

-- one of the set excludes the other
pub record Excludes (set : Outcomes) (other : Outcome) : Type 0 where
  pub one : Outcome
  pub among : has set one ≡ true
  pub excluded : Exclude one other

-- in the order in which it is gone through
abbrev pub in_order : {X : Type 0} → Direction → List X → List X
in_order Forward xs = xs
in_order Backward xs = reverse xs

-- the edges of an item, and of items in that order
abbrev pub walk_of : Direction → Item → List Edge
walk_of d item = in_order d (open_item item).walk

-- what is told of the word where it is carried out, or where it is not
pub record TellsSo (word : ℕ) (done : Bool) (t : Telling) : Type 0 where
  pub action : Action
  pub is : IsAction word action
  pub outcome : t.outcome ≡ Some (record { cond = action.cond; holds = done })
  pub sets : IsTrue t.sets ↔ ((done ≡ true) × ((i : Instr) × Means word i × (may_set_flags i.operation ≡ true)))

module _ (words : Words) where
  -- what the edge tells, if the image has its word, and whether that may set the flags there
  pub record IsTelling (e : Edge) (t : Telling) : Type 0 where
    pub told : IfSome t.outcome (Tells words e)
    pub only : (o : Outcome) → Tells words e o → t.outcome ≡ Some o
    pub sets : IsTrue t.sets ↔ MaySet words e

  -- Outcomes with which that of the edge is compared, by those before it on the way: back from the end, none
  -- where the edge's word itself may set the flags.
  abbrev pub Met : Direction → Edge → (Outcome → Type 0) → Outcome → Type 0
  Met Forward e B o = B o
  Met Backward e B o = (MaySet words e → ⊥) × B o

  -- the outcomes after the edge
  abbrev pub Next : Direction → Edge → (Outcome → Type 0) → Outcome → Type 0
  Next Forward e B o = (MaySet words e → ⊥) × (B o ⊎ Tells words e o)
  Next Backward e B o = ((MaySet words e → ⊥) × B o) ⊎ Tells words e o

  -- and after edges
  abbrev pub After : Direction → List Edge → (Outcome → Type 0) → Outcome → Type 0
  After d [] B o = B o
  After d (e ∷ walk) B o = After d walk (Next d e B) o

  -- the edge tells an outcome that one of them excludes
  pub record Clashes (d : Direction) (e : Edge) (B : Outcome → Type 0) : Type 0 where
    pub one : Outcome
    pub other : Outcome
    pub met : Met d e B one
    pub tells : Tells words e other
    pub excluded : Exclude one other

  -- such an edge of these leaves the address
  abbrev pub Marks : Direction → List Edge → (Outcome → Type 0) → ℕ → Type 0
  Marks d [] B a = ⊥
  Marks d (e ∷ walk) B a = ((is_at a e.from ≡ true) × Clashes d e B) ⊎ Marks d walk (Next d e B) a

-- the answers for addresses become true also for those of which this holds
abbrev pub Notes : (ℕ → Type 0) → (old new : ℕ → Bool) → Type 0
Notes Holds old new = (a : ℕ) → (new a ≡ true) ↔ ((old a ≡ true) ⊎ Holds a)
