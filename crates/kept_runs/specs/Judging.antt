-- One step of the machine against the edges of a place.
use Rattle.std.specs.Prelude.{◌≡◌, ℕ, ◌<◌, ◌^◌, Bool, if◌then◌else◌, List, ◌∷◌, ◌++◌, length}
use Rattle.std.specs.Prelude.{Contains, Option, Some, None, true, false}
use Rattle.image.specs.Image.{Words}
use Rattle.statement.specs.Stated.{Stated, class_at, cycles_at, taken_at}
use Rattle.bus_ticks.specs.Worst.{IsOf}
use Rattle.bus_ticks.specs.declared.profile.Class.{Class}
use Rattle.arm2_effect.specs.Effects as effect
use Rattle.arm2_effect.specs.Effects.{Internal, Word}
use Rattle.arm2_effect.specs.declared.step_end.Kind.{Kind}
use Rattle.arm2_effect.specs.declared.step_end.Kind.TheVariants as ended
use Rattle.arm2_exec.specs.State.{State}
use Rattle.arm2_exec.specs.Step.{Step, address_in}
use Rattle.arm2_exec.specs.declared.machine.Input.{Input}
use Rattle.arm2_exec.specs.declared.machine.Stepped.{Stepped}
use Rattle.control_flow.specs.declared.edges.Edge.{Edge}
use Rattle.control_flow.specs.declared.edges.Label.{Label}
use Rattle.control_flow.specs.declared.edges.Label.TheVariants.{Skip, Do}
use Rattle.control_flow.specs.declared.actions.Action.{Action}
use Rattle.control_flow.specs.declared.places.Place.{Place}
use Rattle.control_flow.specs.declared.places.Place.TheVariants.{At}
use Rattle.control_flow.specs.Flow.{Flow}
use Rattle.control_flow.specs.Edges.{may_go}
use Rattle.control_flow.specs.Kinds.{IsAction}
use Rattle.flow_graph.specs.StepLaw.{Executes, IsEdgeOf, IsTaken, TransfersIn, label_in}
use Rattle.statement.specs.declared.stated.Taken.{Taken}
use Rattle.longest_walk.specs.Built.{step_at}
use Rattle.kept_runs.specs.declared.judging.Stray.{Stray}
use Rattle.kept_runs.specs.declared.judging.Stray.TheVariants as stray
use Rattle.kept_runs.specs.declared.judging.EdgeTaken.{EdgeTaken}
use Rattle.kept_runs.specs.declared.judging.StrayStep.{StrayStep}
use Rattle.kept_runs.specs.declared.transfers.Access.{Access}
use Rattle.kept_runs.specs.Reading.{HasNoWord, FetchesWord}

abbrev pub label_if : Bool → Label
label_if holds = if holds then Do else Skip

-- the machine has its 27 registers and the prices of the graph
pub record IsMachineFor (flow : Flow) (s : State) : Type 0 where
  pub registers : length s.regs ≡ 27
  pub prices : s.profile ≡ flow.profile

-- the place is that of the machine's address, inside some calls
abbrev pub IsPlaceFor : Place → State → Type 0
IsPlaceFor place s = (calls : List ℕ) × (place ≡ At calls (address_in s.regs))

-- what `judge_step` asks of the machine
pub record IsAtPlace (flow : Flow) (place : Place) (s : State) : Type 0 where
  pub machine : IsMachineFor flow s
  pub at : IsPlaceFor place s

-- the word is the first of those that are transferred whose address is of another class
pub record IsFirstOther (class : Class) (accesses : List effect.Access) (access : Access) : Type 0 where
  pub before : List effect.Access
  pub first : Bool
  pub after : List effect.Access
  pub accesses_are : accesses ≡ before ++ Word access.store first access.address ∷ after
  pub before_in : TransfersIn class before
  pub other : IsOf class access.address → ⊥

abbrev pub made : Stray → Stepped → StrayStep
made stray stepped = record { stray = stray; stepped = Some stepped }

-- the step, or that none was made
abbrev pub IsMade : State → Input → State → Option Stepped → Type 0
IsMade s i after None = after ≡ s
IsMade s i after (Some stepped) = Step s i stepped after × (stepped.ticks < 2 ^ 16)

module _ (words : Words) (st : Stated) (flow : Flow) (place : Place) (s : State) (i : Input) where
  -- the step is along the edge of this number, which leaves the place
  pub record Takes (after : State) (taken : EdgeTaken) : Type 0 where
    pub known : taken.edge < length flow.edges
    pub is_edge_of : IsEdgeOf words st flow.profile s i taken.stepped after (step_at flow.edges taken.edge)
    pub from : (step_at flow.edges taken.edge).from ≡ place
    pub machine : IsMachineFor flow after
    pub small : taken.stepped.ticks < 2 ^ 16

  -- no step is along an edge that leaves the place
  abbrev pub TakesNone : Type 0
  TakesNone =
      (stepped : Stepped) (after : State) (e : Edge) → IsEdgeOf words st flow.profile s i stepped after e
      → e.from ≡ place → ⊥

  -- ## Why there is none

  -- the machine fetches the image's word, and the step ends in this way
  pub record Ends (after : State) (kind : Kind) : Type 0 where
    pub word : ℕ
    pub fetches : FetchesWord words s word
    pub stepped : Stepped
    pub step : Step s i stepped after
    pub kind_is : stepped.kind ≡ kind

  -- the word does this, and the step ends as those of other words do
  pub record Does (after : State) : Type 0 where
    pub ends : Ends after ended.Plain
    pub action : Action
    pub is : IsAction ends.word action

  -- the word has a condition, and is passed over or done where the other is stated of it
  pub record GoesOtherWay (after : State) (taken : Taken) : Type 0 where
    pub does : Does after
    pub stated : taken_at st (address_in s.regs) ≡ Some taken
    pub other : may_go (label_in s.regs does.action.cond) does.action.cond (Some taken) ≡ false

  -- the step goes the stated way
  abbrev pub GoesStatedWay : Action → Type 0
  GoesStatedWay action =
      may_go (label_in s.regs action.cond) action.cond (taken_at st (address_in s.regs)) ≡ true

  -- and transfers a word of another class than the one stated, and this is the first
  pub record TransfersOther (after : State) (access : Access) (stated : Class) : Type 0 where
    pub does : Does after
    pub way : GoesStatedWay does.action
    pub stated_is : stated ≡ class_at st (address_in s.regs) does.action.base
    pub is_first : IsFirstOther stated does.ends.step.moved.accesses access

  -- or takes so many cycles without an access, more than are stated
  pub record TakesMore (after : State) (cycles : ℕ) : Type 0 where
    pub does : Does after
    pub way : GoesStatedWay does.action
    pub takes : Contains does.ends.step.moved.accesses (Internal cycles)
    pub more : cycles_at st (address_in s.regs) < cycles

  -- the step executes the word as stated, and goes to the address, to which no edge of the place leads
  pub record GoesTo (after : State) (to : ℕ) : Type 0 where
    pub action : Action
    pub stepped : Stepped
    pub executes : Executes words st flow.profile action s i stepped after
    pub to_is : stepped.to ≡ to
    pub none : (calls : List ℕ) (e : Edge) → IsTaken words st flow.profile calls action s stepped e
        → e.from ≡ place → ⊥

  -- Another word: the image has none at the machine's address, or the machine fetches another or none. No
  -- step is made then.
  abbrev pub IsStray : State → Stray → Type 0
  IsStray after stray.OtherWord = HasNoWord words s × (after ≡ s)
  IsStray after (stray.Exception vector) = Ends after (ended.Taken vector)
  IsStray after (stray.Stopped why) = Ends after (ended.Stopped why)
  IsStray after (stray.OtherWay taken) = GoesOtherWay after taken
  IsStray after (stray.OtherClass access stated) = TransfersOther after access stated
  IsStray after (stray.MoreCycles cycles) = TakesMore after cycles
  IsStray after (stray.Elsewhere to) = GoesTo after to

  pub record Strays (after : State) (stray : Stray) : Type 0 where
    pub none : TakesNone
    pub is : IsStray after stray

  -- the same, with what the step did, if one was made
  pub record StraysBy (after : State) (by : StrayStep) : Type 0 where
    pub strays : Strays after by.stray
    pub step : IsMade s i after by.stepped
