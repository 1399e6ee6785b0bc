-- Two instances of loops that cross.
use Rattle.std.specs.Prelude.{◌≡◌, ◌&&◌, not, Bool, true, ℕ, List, Contains}
use Rattle.control_flow.specs.declared.places.Place.{Place}
use Rattle.control_flow.specs.declared.places.Place.TheVariants.{At}
use Rattle.control_flow.specs.Flow.{Flow}
use Rattle.statement.specs.Stated.{StatedLoops}
use Rattle.statement.specs.declared.apart.ApartStretch.{ApartStretch}
use Rattle.statement.specs.declared.stated.Loop.{Loop}
use Rattle.loop_bounds.specs.declared.loop_instances.LoopInstance.{LoopInstance}
use Rattle.loop_bounds.specs.Extents.{found_instance}
use Rattle.loop_bounds.specs.Instance.{Instance, instance_of, is_member}
use Rattle.loop_bounds.specs.Nest.{HasCrossing, HasOwn}
use Rattle.text_refusals.specs.declared.crossings.Crossing.{Crossing}

-- the two instances cross, by these places
pub record IsCrossing (flow : Flow) (loops : StatedLoops) (c : Crossing) : Type 0 where
  pub crossing : HasCrossing flow loops
  pub one_is : crossing.one ≡ found_instance loops.apart c.one
  pub other_is : crossing.other ≡ found_instance loops.apart c.other
  pub shared_is : crossing.shared ≡ c.shared
  pub one_has_is : (crossing.one_has).place ≡ c.one_has
  pub other_has_is : (crossing.other_has).place ≡ c.other_has

-- ## Of two instances, which clauses of private calls speak of

abbrev pub is_shared : Instance → Instance → Place → Bool
is_shared i j p = is_member i p && is_member j p

abbrev pub is_own : Instance → Instance → Place → Bool
is_own i j p = is_member i p && not (is_member j p)

-- a place of the graph that is a member of both
pub record HasShared (flow : Flow) (i j : Instance) : Type 0 where
  pub place : Place
  pub has : Contains flow.places place
  pub in_one : is_member i place ≡ true
  pub in_other : is_member j place ≡ true

-- so the two cross, by the places of the crossing
pub record ShowsCrossing (flow : Flow) (apart : List ApartStretch) (one other : LoopInstance)
    (c : Crossing) : Type 0 where
  pub one_is : c.one ≡ one
  pub other_is : c.other ≡ other
  pub shared : HasShared flow (found_instance apart one) (found_instance apart other)
  pub one_has : HasOwn flow (found_instance apart one) (found_instance apart other)
  pub other_has : HasOwn flow (found_instance apart other) (found_instance apart one)
  pub shared_is : shared.place ≡ c.shared
  pub one_has_is : one_has.place ≡ c.one_has
  pub other_has_is : other_has.place ≡ c.other_has

-- the two do not cross
abbrev pub DoNotCross : Flow → Instance → Instance → Type 0
DoNotCross flow i j = HasShared flow i j → HasOwn flow i j → HasOwn flow j i → ⊥

-- the instance crosses none with its list of calls
abbrev pub CrossNone : Flow → StatedLoops → Instance → Type 0
CrossNone flow loops i =
    (l : Loop) → Contains loops.list l → Contains flow.places (At i.list l.header)
    → DoNotCross flow i (instance_of loops.apart l i.list)

-- so does no instance whose header is the place
abbrev pub CrossNoneAt : Flow → StatedLoops → List ℕ → ℕ → Type 0
CrossNoneAt flow loops list address =
    (l : Loop) → Contains loops.list l → l.header ≡ address → CrossNone flow loops (instance_of loops.apart l list)
