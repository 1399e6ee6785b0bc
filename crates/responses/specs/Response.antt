-- Response time: how long after an interrupt's line rises the handler's first step at an address ends,
-- whether the condition of its instruction holds or not.
use Rattle.std.specs.Prelude.{◌≡◌, ℕ, ◌+◌, ◌*◌, ◌≤◌, ◌==◌, Bool, true, false, List, [], ◌∷◌, ◌++◌}
use Rattle.std.specs.Prelude.{All, Option, Some, None}
use Rattle.walks.specs.Walk.{Leads, cost_of}
use Rattle.bus_ticks.specs.declared.profile.Profile.{Profile}
use Rattle.image.specs.Image.{Words}
use Rattle.statement.specs.Stated.{Stated, StatedLoops}
use Rattle.arm2_effect.specs.declared.step_end.Kind.TheVariants.{Taken}
use Rattle.arm2_exec.specs.Run.{Runs, why_stopped}
use Rattle.arm2_exec.specs.State.{State}
use Rattle.arm2_exec.specs.Step.{Step}
use Rattle.arm2_exec.specs.declared.machine.Input.{Input}
use Rattle.arm2_exec.specs.declared.machine.Ran.{Ran}
use Rattle.arm2_exec.specs.declared.machine.Stepped.{Stepped}
use Rattle.control_flow.specs.declared.edges.Edge.{Edge}
use Rattle.control_flow.specs.declared.places.Place.{Place}
use Rattle.control_flow.specs.declared.places.Place.TheVariants.{At, Exit}
use Rattle.control_flow.specs.Flow.{Flow, HasEdge, edge_shape}
use Rattle.control_flow.specs.Graph.{IsFlowGraph}
use Rattle.flow_graph.specs.StepLaw.{Follows, bursts_of}
use Rattle.loop_bounds.specs.Bounds.{KeepsTheBounds}
use Rattle.responses.specs.declared.interrupts.Interrupt.{Interrupt}
use Rattle.responses.specs.Entry.{entry_ticks, is_active_at, is_held_back_at, vector_of}
use Rattle.responses.specs.Longest.{IsStepAt, longest_step}

-- ## The inputs

-- those of the step in progress when the line rises, of the steps that wait, of the one that takes the
-- interrupt, and of the handler's steps
pub record Service : Type 0 where
  pub in_progress : Input
  pub waiting : List Input
  pub taking : Input
  pub handling : List Input

-- of all steps, in their order
abbrev pub inputs_of : Service → List Input
inputs_of service = service.in_progress ∷ (service.waiting ++ service.taking ∷ service.handling)

-- ## Coming to an address

-- whether a place is at the address, inside of whatever calls
abbrev pub is_at : ℕ → Place → Bool
is_at address (At calls a) = a == address
is_at address Exit = false

-- The walk leads from the entry to a place at the address, which it comes to at its end alone, and keeps the
-- loop bounds.
pub record FirstComesTo (flow : Flow) (loops : StatedLoops) (address : ℕ) (walk : List Edge)
    (place : Place) : Type 0 where
  pub leads : Leads edge_shape (HasEdge flow) flow.entry walk place
  pub kept : KeepsTheBounds flow loops walk
  pub before : All (λ e. is_at address e.from ≡ false) walk
  pub there : is_at address place ≡ true

-- no such walk costs more, whatever its place
abbrev pub BoundsArrivals : Flow → StatedLoops → (address arrival : ℕ) → Type 0
BoundsArrivals flow loops address arrival =
    (walk : List Edge) (place : Place)
    → FirstComesTo flow loops address walk place → cost_of edge_shape walk ≤ arrival

-- one costs as many
pub record HasArrival (flow : Flow) (loops : StatedLoops) (address arrival : ℕ) : Type 0 where
  pub walk : List Edge
  pub place : Place
  pub comes : FirstComesTo flow loops address walk place
  pub costs : cost_of edge_shape walk ≡ arrival

-- the greatest cost of such a walk; None where none comes to the address
abbrev pub IsWorstArrival : Flow → StatedLoops → (address : ℕ) → Option ℕ → Type 0
IsWorstArrival flow loops address None =
    (walk : List Edge) (place : Place) → FirstComesTo flow loops address walk place → ⊥
IsWorstArrival flow loops address (Some arrival) =
    HasArrival flow loops address arrival × BoundsArrivals flow loops address arrival

-- no edge from the address costs more
abbrev pub BoundsStepsAt : Flow → (address own : ℕ) → Type 0
BoundsStepsAt flow address own =
    (e : Edge) → HasEdge flow e → is_at address e.from ≡ true → e.cost ≤ own

-- one costs as many
pub record HasStepAt (flow : Flow) (address own : ℕ) : Type 0 where
  pub edge : Edge
  pub is_edge : HasEdge flow edge
  pub from : is_at address edge.from ≡ true
  pub costs : edge.cost ≡ own

-- the greatest cost of an edge from the address; None where none leaves it
abbrev pub IsWorstStepAt : Flow → (address : ℕ) → Option ℕ → Type 0
IsWorstStepAt flow address None = (e : Edge) → HasEdge flow e → is_at address e.from ≡ true → ⊥
IsWorstStepAt flow address (Some own) = HasStepAt flow address own × BoundsStepsAt flow address own

-- ## Runs that serve an interrupt

-- steps at whose beginning the processor holds the interrupt back, and their ticks together
abbrev pub Waits : Interrupt → State → List Input → (ticks : ℕ) → State → Type 0
Waits interrupt s [] ticks after = (ticks ≡ 0) × (after ≡ s)
Waits interrupt s (i ∷ inputs) ticks after =
    (stepped : Stepped) × (next : State) × Step s i stepped next × (why_stopped stepped.kind ≡ None)
    × (is_held_back_at interrupt s i ≡ true)
    × ((more : ℕ) × Waits interrupt next inputs more after × (ticks ≡ stepped.ticks + more))

-- A step of whatever program: the line may rise at any time during it, so all of it counts. Then steps while
-- the interrupt is held back, of at most so many ticks together, and a step that takes it. Then the handler's
-- steps, along a walk from its entry that so far keeps the loop bounds, up to and with the first one that
-- begins at the address. What comes after is left open.
pub record Serves (words : Words) (st : Stated) (flow : Flow) (interrupt : Interrupt) (address masked : ℕ)
    (s : State) (service : Service) : Type 0 where
  pub in_progress : Stepped
  pub risen : State
  pub progresses : IsStepAt flow.profile s service.in_progress in_progress risen
  pub waited : ℕ
  pub unmasked : State
  pub waits : Waits interrupt risen service.waiting waited unmasked
  pub waited_most : waited ≤ masked
  pub taking : Stepped
  pub entered : State
  pub takes : Step unmasked service.taking taking entered
  pub taken : taking.kind ≡ Taken (vector_of interrupt)
  pub walk : List Edge
  pub place : Place
  pub comes : FirstComesTo flow st.loops address walk place
  pub last : Edge
  pub is_edge : HasEdge flow last
  pub from : last.from ≡ place
  pub follows : Follows words st flow.profile entered service.handling (walk ++ last ∷ [])

-- ## How long they take

-- at most so many ticks of the processor, and with those of DMA bursts at most their price more
pub record TakesAtMost (profile : Profile) (most : ℕ) (inputs : List Input) (ran : Ran) : Type 0 where
  pub ticks : ran.ticks ≤ most
  pub elapsed : ran.elapsed ≤ most + profile.burst * bursts_of inputs

-- the step in progress, the time for which the interrupt is held back, its entry, the handler's way to the
-- address, and the step there
abbrev pub response_time : Profile → Interrupt → (longest masked arrival own : ℕ) → ℕ
response_time p interrupt longest masked arrival own =
    longest + (masked + (entry_ticks p interrupt + (arrival + own)))

-- Each run that serves, and whose step in progress takes at most so many ticks as its longest, takes at most
-- the sum, from the beginning of the step in progress to the end of the handler's first step at the address.
abbrev pub RespondsWithin : (words : Words) → (st : Stated) → (flow : Flow) → (interrupt : Interrupt)
    → (address longest masked most : ℕ) → Type 0
RespondsWithin words st flow interrupt address longest masked most =
    (s : State) (service : Service) (ran : Ran) (after : State)
    → (is : Serves words st flow interrupt address masked s service) → is.in_progress.ticks ≤ longest
    → Runs s (inputs_of service) ran after → TakesAtMost flow.profile most (inputs_of service) ran

abbrev pub ResponseLaw : Type 0
ResponseLaw =
    (words : Words) (st : Stated) (flow : Flow) (interrupt : Interrupt)
    (address longest masked arrival own : ℕ)
    → BoundsArrivals flow st.loops address arrival → BoundsStepsAt flow address own
    → RespondsWithin words st flow interrupt address longest masked
    (response_time flow.profile interrupt longest masked arrival own)

-- the step in progress takes at most as many ticks as the longest step of any program
abbrev pub NoneIsLonger : Type 0
NoneIsLonger =
    (words : Words) (st : Stated) (flow : Flow) (interrupt : Interrupt) (address masked : ℕ) (s : State)
    (service : Service) (is : Serves words st flow interrupt address masked s service)
    → is.in_progress.ticks ≤ longest_step flow.profile

-- ## Some run

-- a handler with a flow graph, and a run that serves the interrupt: IOC does not ask for it as the run
-- begins, it asks as the one step that waits begins
pub record HasService (profile : Profile) (interrupt : Interrupt) : Type 0 where
  pub words : Words
  pub stated : Stated
  pub flow : Flow
  pub graph_is : IsFlowGraph words stated profile flow
  pub address : ℕ
  pub masked : ℕ
  pub s : State
  pub service : Service
  pub serves : Serves words stated flow interrupt address masked s service
  pub waiting : Input
  pub waits : service.waiting ≡ waiting ∷ []
  pub low_before : is_active_at interrupt s service.in_progress ≡ false
  pub active_after : is_active_at interrupt serves.risen waiting ≡ true
  pub ran : Ran
  pub after : State
  pub runs : Runs s (inputs_of service) ran after
