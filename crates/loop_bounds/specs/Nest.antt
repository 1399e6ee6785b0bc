-- Why the loops of a handler have no tree, and when each refusal comes: the first that applies, in the
-- order given here.
use Rattle.std.specs.Prelude.{◌≡◌, ◌≢◌, true, false, ℕ, ◌<◌, ◌⊎◌, List, length, Contains, slice_index_or}
use Rattle.std.specs.Prelude.{AllPairs, All}
use Rattle.walks.specs.Walk.{Cycle}
use Rattle.walks.specs.Greatest.{is_back_edge}
use Rattle.walks.specs.declared.limits.TheConstants.{MOST_INSTANCES}
use Rattle.control_flow.specs.declared.places.Place.{Place}
use Rattle.control_flow.specs.declared.edges.Edge.{Edge}
use Rattle.statement.specs.Stated.{StatedLoops}
use Rattle.statement.specs.declared.stated.Loop.{Loop}
use Rattle.control_flow.specs.Flow.{Flow, edge_shape, HasEdge}
use Rattle.loop_bounds.specs.declared.fault.NestFault.{NestFault}
use Rattle.loop_bounds.specs.declared.fault.NestFault.TheVariants.{Memory, LoopsCross, SharedHeader}
use Rattle.loop_bounds.specs.declared.fault.NestFault.TheVariants.{EntersMidLoop, UnboundedCycle}
use Rattle.loop_bounds.specs.declared.fault.NestFault.TheVariants.{NestedTooDeep}
use Rattle.loop_bounds.specs.Instance.{Instance, IsInstance, is_member, is_header, place_loops}

-- ## Loops that cross

-- a place of the graph that is a member of the one and not of the other
pub record HasOwn (flow : Flow) (i j : Instance) : Type 0 where
  pub place : Place
  pub has : Contains flow.places place
  pub member : is_member i place ≡ true
  pub other : is_member j place ≡ false

-- two instances overlap, and neither lies within the other
pub record HasCrossing (flow : Flow) (loops : StatedLoops) : Type 0 where
  pub one : Instance
  pub other : Instance
  pub one_is : IsInstance flow loops one
  pub other_is : IsInstance flow loops other
  pub shared : Place
  pub has : Contains flow.places shared
  pub in_one : is_member one shared ≡ true
  pub in_other : is_member other shared ≡ true
  pub one_has : HasOwn flow one other
  pub other_has : HasOwn flow other one

-- two that do so have this list of calls
pub record HasCrossingWith (flow : Flow) (loops : StatedLoops) (list : List ℕ) : Type 0 where
  pub crossing : HasCrossing flow loops
  pub one_list : crossing.one.list ≡ list
  pub other_list : crossing.other.list ≡ list

-- ## Headers

-- two stated loops have one header address, whether it is reached or not
pub record HasSharedHeader (loops : List Loop) : Type 0 where
  pub one : ℕ
  pub other : ℕ
  pub differ : one < other
  pub inside : other < length loops
  pub same : (d : Loop) → (slice_index_or loops one d).header ≡ (slice_index_or loops other d).header

-- ## Entries

-- the entry, or where an edge from no member ends
abbrev pub IsEntered : Flow → Instance → Place → Type 0
IsEntered flow i p =
    (p ≡ flow.entry) ⊎ ((e : Edge) × HasEdge flow e × (e.to ≡ p) × (is_member i e.from ≡ false))

-- an instance is entered at a member that is not its header
pub record HasMidEntry (flow : Flow) (loops : StatedLoops) : Type 0 where
  pub instance : Instance
  pub is : IsInstance flow loops instance
  pub place : Place
  pub has : Contains flow.places place
  pub member : is_member instance place ≡ true
  pub no_header : is_header instance place ≡ false
  pub entered : IsEntered flow instance place

-- ## Cycles

-- an edge of the graph that is a back edge of no instance
pub record IsPlainEdge (flow : Flow) (loops : StatedLoops) (e : Edge) : Type 0 where
  pub has : HasEdge flow e
  pub plain : (i : Instance) → IsInstance flow loops i → is_back_edge edge_shape place_loops i e ≡ false

-- a cycle without a back edge
abbrev pub HasUnboundedCycle : Flow → StatedLoops → Type 0
HasUnboundedCycle flow loops = Cycle edge_shape (IsPlainEdge flow loops)

-- ## Nesting

-- a place that is a member of more than sixteen instances
pub record HasDeepPlace (flow : Flow) (loops : StatedLoops) : Type 0 where
  pub place : Place
  pub has : Contains flow.places place
  pub instances : List Instance
  pub differ : AllPairs (λ i j. i ≢ j) instances
  pub each : All (IsInstance flow loops) instances
  pub members : All (λ i. is_member i place ≡ true) instances
  pub many : MOST_INSTANCES < length instances

-- ## Refusals

-- what a refusal says of a handler
abbrev pub Applies : Flow → StatedLoops → NestFault → Type 0
Applies flow loops Memory = Unit {0}
Applies flow loops LoopsCross = HasCrossing flow loops
Applies flow loops SharedHeader = HasSharedHeader loops.list
Applies flow loops EntersMidLoop = HasMidEntry flow loops
Applies flow loops UnboundedCycle = HasUnboundedCycle flow loops
Applies flow loops NestedTooDeep = HasDeepPlace flow loops

-- it applies, and none that comes before it does
abbrev pub IsNestFault : Flow → StatedLoops → NestFault → Type 0
IsNestFault flow loops Memory = Unit {0}
IsNestFault flow loops LoopsCross = HasCrossing flow loops
IsNestFault flow loops SharedHeader = (HasCrossing flow loops → ⊥) × HasSharedHeader loops.list
IsNestFault flow loops EntersMidLoop =
    (HasCrossing flow loops → ⊥) × (HasSharedHeader loops.list → ⊥) × HasMidEntry flow loops
IsNestFault flow loops UnboundedCycle =
    (HasCrossing flow loops → ⊥) × (HasSharedHeader loops.list → ⊥) × (HasMidEntry flow loops → ⊥)
    × HasUnboundedCycle flow loops
IsNestFault flow loops NestedTooDeep =
    (HasCrossing flow loops → ⊥) × (HasSharedHeader loops.list → ⊥) × (HasMidEntry flow loops → ⊥)
    × (HasUnboundedCycle flow loops → ⊥) × HasDeepPlace flow loops
