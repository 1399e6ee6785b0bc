-- Response time of IRQ where FIQ's handler visits the steps that wait, the one that takes IRQ, and those of
-- IRQ's handler.
use Rattle.std.specs.Prelude.{◌≡◌, ℕ, ◌+◌, ◌≤◌, true, List, [], ◌∷◌, ◌++◌, None}
use Rattle.walks.specs.Walk.{cost_of}
use Rattle.bus_ticks.specs.declared.profile.Profile.{Profile}
use Rattle.bus_ticks.specs.declared.space.TheConstants.{FIQ_VECTOR}
use Rattle.image.specs.Image.{Words}
use Rattle.statement.specs.Stated.{Stated, StatedLoops}
use Rattle.arm2_effect.specs.declared.exceptions.Vector.TheVariants as vector
use Rattle.arm2_effect.specs.declared.step_end.Kind.TheVariants.{Taken}
use Rattle.arm2_exec.specs.Run.{Runs, why_stopped}
use Rattle.arm2_exec.specs.State.{State}
use Rattle.arm2_exec.specs.Step.{Step}
use Rattle.arm2_exec.specs.declared.machine.Input.{Input}
use Rattle.arm2_exec.specs.declared.machine.Ran.{Ran}
use Rattle.arm2_exec.specs.declared.machine.Stepped.{Stepped}
use Rattle.control_flow.specs.declared.edges.Edge.{Edge}
use Rattle.control_flow.specs.declared.places.Place.{Place}
use Rattle.control_flow.specs.Flow.{Flow, HasEdge, edge_shape}
use Rattle.control_flow.specs.Graph.{IsFlowGraph}
use Rattle.flow_graph.specs.StepLaw.{Follows}
use Rattle.loop_bounds.specs.Bounds.{IsCompleteWalk, KeepsTheBounds}
use Rattle.longest_walk.specs.Visits.{visits_bound}
use Rattle.kept_runs.specs.Visited.{AreVisits, FollowsVisited, MainStep, inputs_of, visits_of}
use Rattle.responses.specs.declared.interrupts.Interrupt.TheVariants.{Irq}
use Rattle.responses.specs.Entry.{is_held_back_at}
use Rattle.responses.specs.Longest.{IsStepAt}
use Rattle.responses.specs.Response.{BoundsArrivals, BoundsStepsAt, FirstComesTo, TakesAtMost, response_time}

-- ## Visits

-- the steps are those of a complete walk of the handler that keeps the loop bounds
pub record KeepsStated (words : Words) (st : Stated) (profile : Profile) (flow : Flow) (s : State)
    (inputs : List Input) : Type 0 where
  pub walk : List Edge
  pub complete : IsCompleteWalk flow walk
  pub kept : KeepsTheBounds flow st.loops walk
  pub follows : Follows words st profile s inputs walk

-- no such walk costs more
abbrev pub BoundsHandler : Flow → StatedLoops → (most : ℕ) → Type 0
BoundsHandler flow loops most =
    (walk : List Edge) → IsCompleteWalk flow walk → KeepsTheBounds flow loops walk
    → cost_of edge_shape walk ≤ most

-- ## The inputs

-- those of the step in progress when IRQ's line rises, and of the steps that wait, of the one that takes IRQ,
-- and of the handler's steps, each of these after visits
pub record VisitedService : Type 0 where
  pub in_progress : Input
  pub waiting : List MainStep
  pub taking : MainStep
  pub handling : List MainStep

-- all steps after that in progress
abbrev pub steps_of : VisitedService → List MainStep
steps_of service = service.waiting ++ service.taking ∷ service.handling

abbrev pub service_inputs : VisitedService → List Input
service_inputs service = service.in_progress ∷ inputs_of (steps_of service)

-- ## Runs that serve IRQ

-- by which inputs a run from a state keeps the statement of FIQ's handler, and the prices
module _ (KeepsFiq : State → List Input → Type 0) (profile : Profile) where
  -- steps at whose beginning the processor holds IRQ back, each after visits, and their ticks together
  -- without those of the visits
  abbrev pub WaitsVisited : State → List MainStep → (ticks : ℕ) → State → Type 0
  WaitsVisited s [] ticks after = (ticks ≡ 0) × (after ≡ s)
  WaitsVisited s (m ∷ steps) ticks after =
      (visited : State) × AreVisits KeepsFiq profile s m.visits visited
      × ((stepped : Stepped) × (next : State) × Step visited m.input stepped next
      × (why_stopped stepped.kind ≡ None) × (is_held_back_at Irq visited m.input ≡ true)
      × ((more : ℕ) × WaitsVisited next steps more after × (ticks ≡ stepped.ticks + more)))

-- As a run that serves IRQ, but that visits of FIQ's handler may come before each step after that in
-- progress: their time counts neither as held back nor as the handler's.
pub record ServesVisited (words fiq_words : Words) (irq fiq : Stated) (flow fiq_flow : Flow)
    (address masked : ℕ) (s : State) (service : VisitedService) : Type 0 where
  pub in_progress : Stepped
  pub risen : State
  pub progresses : IsStepAt flow.profile s service.in_progress in_progress risen
  pub waited : ℕ
  pub unmasked : State
  pub waits : WaitsVisited (KeepsStated fiq_words fiq flow.profile fiq_flow) flow.profile risen
      service.waiting waited unmasked
  pub waited_most : waited ≤ masked
  pub visited : State
  pub visits : AreVisits (KeepsStated fiq_words fiq flow.profile fiq_flow) flow.profile unmasked
      (service.taking).visits visited
  pub taking : Stepped
  pub entered : State
  pub takes : Step visited (service.taking).input taking entered
  pub taken : taking.kind ≡ Taken vector.Irq
  pub walk : List Edge
  pub place : Place
  pub comes : FirstComesTo flow irq.loops address walk place
  pub last : Edge
  pub is_edge : HasEdge flow last
  pub from : last.from ≡ place
  pub follows : FollowsVisited (KeepsStated fiq_words fiq flow.profile fiq_flow) flow.profile words irq
      entered service.handling (walk ++ last ∷ [])

-- ## How long they take

-- The sum of the parts without visits, and for each visit its handler's greatest cost and its entry.
abbrev pub VisitedResponseLaw : Type 0
VisitedResponseLaw =
    (words fiq_words : Words) (irq fiq : Stated) (flow fiq_flow : Flow)
    (address longest masked arrival own most visits : ℕ)
    → BoundsArrivals flow irq.loops address arrival → BoundsStepsAt flow address own
    → BoundsHandler fiq_flow fiq.loops most
    → (s : State) (service : VisitedService) (ran : Ran) (after : State)
    → (is : ServesVisited words fiq_words irq fiq flow fiq_flow address masked s service)
    → is.in_progress.ticks ≤ longest → visits_of (steps_of service) ≤ visits
    → Runs s (service_inputs service) ran after
    → TakesAtMost flow.profile
    (visits_bound flow.profile (response_time flow.profile Irq longest masked arrival own) most visits)
    (service_inputs service) ran

-- ## Some run

-- handlers of IRQ and FIQ with flow graphs, and a run that serves IRQ, with one visit
pub record HasVisitedService (profile : Profile) : Type 0 where
  pub words : Words
  pub fiq_words : Words
  pub irq : Stated
  pub fiq : Stated
  pub flow : Flow
  pub fiq_flow : Flow
  pub graph_is : IsFlowGraph words irq profile flow
  pub fiq_graph_is : IsFlowGraph fiq_words fiq profile fiq_flow
  pub fiq_entry_is : fiq.entry ≡ FIQ_VECTOR
  pub address : ℕ
  pub masked : ℕ
  pub s : State
  pub service : VisitedService
  pub serves : ServesVisited words fiq_words irq fiq flow fiq_flow address masked s service
  pub one : visits_of (steps_of service) ≡ 1
  pub ran : Ran
  pub after : State
  pub runs : Runs s (service_inputs service) ran after
