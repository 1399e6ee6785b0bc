-- Runs of an interrupt handler that FIQ interrupts, and what a bound says of them.
use Rattle.std.specs.Prelude.{◌≡◌, ℕ, ◌+◌, ◌*◌, ◌≤◌, List, [], ◌∷◌, ◌++◌, Option, Some, None}
use Rattle.bus_ticks.specs.declared.profile.Profile.{Profile}
use Rattle.bus_ticks.specs.declared.space.TheConstants.{FIQ_VECTOR}
use Rattle.image.specs.Image.{Words}
use Rattle.arm2_effect.specs.declared.exceptions.Vector.TheVariants.{Fiq}
use Rattle.arm2_effect.specs.declared.step_end.Kind.{Kind}
use Rattle.arm2_effect.specs.declared.step_end.Kind.TheVariants.{Taken}
use Rattle.arm2_exec.specs.Run.{Runs}
use Rattle.arm2_exec.specs.State.{State}
use Rattle.arm2_exec.specs.Step.{Step}
use Rattle.arm2_exec.specs.declared.machine.Input.{Input}
use Rattle.arm2_exec.specs.declared.machine.Ran.{Ran}
use Rattle.arm2_exec.specs.declared.machine.Stepped.{Stepped}
use Rattle.control_flow.specs.Flow.{Flow}
use Rattle.control_flow.specs.Graph.{IsFlowGraph}
use Rattle.statement.specs.Stated.{Stated}
use Rattle.longest_walk.specs.Visits.{visits_bound}
use Rattle.kept_runs.specs.Visited.{FollowsVisited, MainStep, inputs_of, visits_of}
use Rattle.handlers.specs.Keeping.{HasKeptWalk, KeepsStatement, TakesAtMost}

-- ## How often FIQ is taken

-- how many of a run's steps take FIQ
abbrev pub fiqs_of : Kind → ℕ
fiqs_of (Taken Fiq) = 1
fiqs_of kind = 0

abbrev pub TakeFiq : State → List Input → (count : ℕ) → Type 0
TakeFiq s [] count = count ≡ 0
TakeFiq s (i ∷ rest) count =
    (stepped : Stepped) × (next : State) × Step s i stepped next
    × ((more : ℕ) × TakeFiq next rest more × (count ≡ fiqs_of stepped.kind + more))

-- a step of a run takes FIQ; what ran before it gives the ticks at which it begins, and how many steps took
-- FIQ earlier
pub record TakesFiq (s : State) (inputs : List Input) : Type 0 where
  pub before : List Input
  pub taking : Input
  pub rest : List Input
  pub inputs_are : inputs ≡ before ++ (taking ∷ rest)
  pub ran : Ran
  pub now : State
  pub runs : Runs s before ran now
  pub goes_on : ran.stopped ≡ None
  pub earlier : ℕ
  pub earlier_are : TakeFiq s before earlier
  pub stepped : Stepped
  pub entered : State
  pub step : Step now taking stepped entered
  pub takes_fiq : stepped.kind ≡ Taken Fiq

-- FIQ's device asks for it at most once in `every` ticks of the processor, and may have waited for so many
-- ticks as the run begins: a step that takes FIQ, k others before it, does not begin earlier than `waited`
-- ticks before k times `every`. It may begin later.
abbrev pub IsTakenEvery : (every waited : ℕ) → State → List Input → Type 0
IsTakenEvery every waited s inputs = (x : TakesFiq s inputs) → x.earlier * every ≤ x.ran.ticks + waited

-- any two steps that take FIQ, one after the other, begin at least so many ticks apart
abbrev pub AreTakenApart : (every : ℕ) → State → List Input → Type 0
AreTakenApart every s inputs =
    (x y : TakesFiq s inputs) → y.earlier ≡ x.earlier + 1 → x.ran.ticks + every ≤ y.ran.ticks

-- where they do, FIQ is taken at most once in so many ticks, for however long it may have waited
abbrev pub ApartIsTakenEvery : Type 0
ApartIsTakenEvery =
    (every waited : ℕ) (s : State) (inputs : List Input)
    → AreTakenApart every s inputs → IsTakenEvery every waited s inputs

-- ## How many visits are enough

-- by the bounds of the interrupted handler and of FIQ's, no more than k come before the end of a run with k
-- visits
abbrev pub AreEnoughVisits : Profile → (irq fiq every waited k : ℕ) → Type 0
AreEnoughVisits profile irq fiq every waited k = visits_bound profile irq fiq k + waited ≤ k * every

-- the fewest that are enough; None where no number is, and so no time is found in which the handler ends
abbrev pub AreFewestVisits : Profile → (irq fiq every waited : ℕ) → Option ℕ → Type 0
AreFewestVisits profile irq fiq every waited (Some k) =
    AreEnoughVisits profile irq fiq every waited k
    × ((other : ℕ) → AreEnoughVisits profile irq fiq every waited other → k ≤ other)
AreFewestVisits profile irq fiq every waited None =
    (k : ℕ) → AreEnoughVisits profile irq fiq every waited k → ⊥

-- ## Runs that keep both statements

-- the interrupted handler by its words, FIQ's handler by its words, statement and graph, and the prices
module _ (irq_words fiq_words : Words) (fiq : Stated) (profile : Profile) (fiq_flow : Flow) where
  -- From this state the run keeps both statements: the main steps that of the interrupted handler, as if
  -- there were no visits, and each visit that of FIQ's.
  abbrev pub KeepsVisited : (irq : Stated) (irq_flow : Flow) → State → List MainStep → Type 0
  KeepsVisited irq irq_flow s steps = HasKeptWalk irq irq_flow
      (FollowsVisited (KeepsStatement fiq_words fiq profile fiq_flow) profile irq_words irq s steps)

  -- every run that keeps both statements with at most k visits, from whatever state and by whatever inputs,
  -- takes at most the total
  abbrev pub BoundsVisitedRuns : (irq : Stated) (irq_flow : Flow) → (k total : ℕ) → Type 0
  BoundsVisitedRuns irq irq_flow k total =
      (s : State) (steps : List MainStep) (ran : Ran) (after : State)
      → KeepsVisited irq irq_flow s steps → visits_of steps ≤ k → Runs s (inputs_of steps) ran after
      → TakesAtMost profile total (inputs_of steps) ran

  -- so does every run in which FIQ's device asks for it at most once in so many ticks
  abbrev pub BoundsRunsEvery : (irq : Stated) (irq_flow : Flow) → (every waited total : ℕ) → Type 0
  BoundsRunsEvery irq irq_flow every waited total =
      (s : State) (steps : List MainStep) (ran : Ran) (after : State)
      → KeepsVisited irq irq_flow s steps → IsTakenEvery every waited s (inputs_of steps)
      → Runs s (inputs_of steps) ran after
      → TakesAtMost profile total (inputs_of steps) ran

-- handlers with flow graphs, and a run of them from some state that keeps both statements, with two visits
pub record HasVisitedRun (profile : Profile) : Type 0 where
  pub words : Words
  pub irq : Stated
  pub fiq : Stated
  pub irq_flow : Flow
  pub fiq_flow : Flow
  pub irq_graph_is : IsFlowGraph words irq profile irq_flow
  pub fiq_graph_is : IsFlowGraph words fiq profile fiq_flow
  pub fiq_entry_is : fiq.entry ≡ FIQ_VECTOR
  pub s : State
  pub steps : List MainStep
  pub two : visits_of steps ≡ 2
  pub keeps : KeepsVisited words words fiq profile fiq_flow irq irq_flow s steps
  pub ran : Ran
  pub after : State
  pub runs : Runs s (inputs_of steps) ran after

-- in such a run FIQ is taken at most once in so many ticks, where it may have waited for as many
abbrev pub VisitedIsTakenEvery : Type 0
VisitedIsTakenEvery =
    (profile : Profile) (has : HasVisitedRun profile) (every waited : ℕ) → every ≤ waited
    → IsTakenEvery every waited has.s (inputs_of has.steps)
