-- Machine runs that keep a statement, and what a bound says of them.
use Rattle.std.specs.Prelude.{ℕ, ◌+◌, ◌*◌, ◌≤◌, List}
use Rattle.bus_ticks.specs.declared.profile.Profile.{Profile}
use Rattle.image.specs.Image.{Words}
use Rattle.arm2_exec.specs.Run.{Runs}
use Rattle.arm2_exec.specs.State.{State}
use Rattle.arm2_exec.specs.declared.machine.Input.{Input}
use Rattle.arm2_exec.specs.declared.machine.Ran.{Ran}
use Rattle.control_flow.specs.Flow.{Flow}
use Rattle.control_flow.specs.Graph.{IsFlowGraph}
use Rattle.flow_graph.specs.StepLaw.{Follows, bursts_of}
use Rattle.control_flow.specs.declared.edges.Edge.{Edge}
use Rattle.statement.specs.Stated.{Stated}
use Rattle.loop_bounds.specs.Bounds.{IsCompleteWalk, KeepsTheBounds}

-- a walk from the entry to Exit that keeps the loop bounds, along which this goes
pub record HasKeptWalk (stated : Stated) (flow : Flow) (GoesAlong : List Edge → Type 0) : Type 0 where
  pub walk : List Edge
  pub complete : IsCompleteWalk flow walk
  pub kept : KeepsTheBounds flow stated.loops walk
  pub follows : GoesAlong walk

-- From this state the steps are the edges of a walk from the entry to Exit that keeps the loop bounds: each
-- does the image's word at its address, takes no exception and does not stop, moves words of the stated class
-- alone, multiplies in at most the stated cycles, goes the stated way, and goes where its edge leads; the
-- last one to an address of the leave class.
abbrev pub KeepsStatement : Words → Stated → Profile → Flow → State → List Input → Type 0
KeepsStatement words stated profile flow s inputs =
    HasKeptWalk stated flow (Follows words stated profile s inputs)

-- at most so many ticks of the processor, and with those of DMA bursts at most their price more
pub record TakesAtMost (profile : Profile) (bound : ℕ) (inputs : List Input) (ran : Ran) : Type 0 where
  pub ticks : ran.ticks ≤ bound
  pub elapsed : ran.elapsed ≤ bound + profile.burst * bursts_of inputs

-- every run that keeps the statement, from whatever state and by whatever inputs, takes at most the bound
abbrev pub BoundsRuns : Words → Stated → Profile → Flow → ℕ → Type 0
BoundsRuns words stated profile flow bound =
    (s : State) (inputs : List Input) (ran : Ran) (after : State)
    → KeepsStatement words stated profile flow s inputs → Runs s inputs ran after
    → TakesAtMost profile bound inputs ran

-- a handler with a flow graph, and a run of it from some state that keeps its statement: what a bound says of
-- runs, it says of some
pub record HasKeptRun (profile : Profile) : Type 0 where
  pub words : Words
  pub stated : Stated
  pub flow : Flow
  pub graph_is : IsFlowGraph words stated profile flow
  pub s : State
  pub inputs : List Input
  pub keeps : KeepsStatement words stated profile flow s inputs
  pub ran : Ran
  pub after : State
  pub runs : Runs s inputs ran after
