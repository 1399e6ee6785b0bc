-- A place in more loops than are allowed.
use Rattle.std.specs.Prelude.{◌≡◌, ◌≢◌, not, true, ℕ, List, All, AllPairs, Contains, map, count_by, take}
use Rattle.std.specs.Prelude.{◌≤◌, length}
use Rattle.control_flow.specs.declared.places.Place.{Place}
use Rattle.control_flow.specs.declared.places.Place.TheVariants.{At}
use Rattle.control_flow.specs.Flow.{Flow}
use Rattle.statement.specs.Stated.{StatedLoops}
use Rattle.statement.specs.declared.stated.Loop.{Loop}
use Rattle.loop_bounds.specs.declared.loop_instances.LoopInstance.{LoopInstance}
use Rattle.loop_bounds.specs.Extents.{found_instance}
use Rattle.loop_bounds.specs.Instance.{Instance, IsInstance, instance_of, is_member}
use Rattle.loop_bounds.specs.Nest.{HasCrossing, HasDeepPlace}
use Rattle.text_refusals.specs.declared.nested.DeepPlace.{DeepPlace}

-- each place of the graph that is a member of the inner one is a member of the outer one
abbrev pub IsAround : Flow → (outer inner : Instance) → Type 0
IsAround flow i j =
    (p : Place) → Contains flow.places p → is_member j p ≡ true → is_member i p ≡ true

-- each is around all that come after it
abbrev pub AreNested : Flow → List Instance → Type 0
AreNested flow instances = AllPairs (IsAround flow) instances

-- the instances of which the place is a member, each once
pub record AreInstancesOf (flow : Flow) (loops : StatedLoops) (p : Place)
    (found : List Instance) : Type 0 where
  pub each : All (IsInstance flow loops) found
  pub members : All (λ i. is_member i p ≡ true) found
  pub all : (i : Instance) → IsInstance flow loops i → is_member i p ≡ true → Contains found i
  pub differ : AllPairs (λ i j. i ≢ j) found

-- the place is in more than sixteen instances, these; where no loops cross, the outermost comes first
pub record IsDeep (flow : Flow) (loops : StatedLoops) (d : DeepPlace) : Type 0 where
  pub deep : HasDeepPlace flow loops
  pub place_is : deep.place ≡ d.place
  pub instances_are : deep.instances ≡ map (found_instance loops.apart) d.instances.items
  pub all : AreInstancesOf flow loops d.place (map (found_instance loops.apart) d.instances.items)
  pub nested : (HasCrossing flow loops → ⊥)
      → AreNested flow (map (found_instance loops.apart) d.instances.items)

-- ## Instances one after another, which clauses of private calls speak of

-- the instance has the place, and its header is a place of the graph
pub record HasPlace (flow : Flow) (p : Place) (i : Instance) : Type 0 where
  pub member : is_member i p ≡ true
  pub reached : Contains flow.places (At i.list i.header)

-- so do all of these, which are of the loops, and each occurs once
pub record HavePlace (flow : Flow) (loops : StatedLoops) (p : Place)
    (found : List LoopInstance) : Type 0 where
  pub each : All (λ f. HasPlace flow p (found_instance loops.apart f)) found
  pub stated : All (λ f. Contains loops.list f.stated) found
  pub differ : AllPairs (λ f g. f ≢ g) found

-- nothing is taken away
abbrev pub KeepsAll : (old new : List LoopInstance) → Type 0
KeepsAll old new = (f : LoopInstance) → Contains old f → Contains new f

-- all with the list of calls that have the place are among these
abbrev pub HasAllWith : Flow → StatedLoops → Place → List ℕ → List LoopInstance → Type 0
HasAllWith flow loops p list found =
    (l : Loop) → Contains loops.list l → HasPlace flow p (instance_of loops.apart l list)
    → Contains found (record { list = list; stated = l })

-- and all with a front of it
abbrev pub HasAllUpTo : Flow → StatedLoops → Place → List ℕ → List LoopInstance → Type 0
HasAllUpTo flow loops p list found =
    (n : ℕ) → n ≤ length list → HasAllWith flow loops p (take n list) found

-- how many places of the graph are no members
abbrev pub others : Flow → Instance → ℕ
others flow i = count_by (λ p. not (is_member i p)) flow.places
