-- The bound of words and of what is stated of them, or why there is none, with no source and no text of a
-- statement.
use Rattle.std.specs.Prelude.{◌≢◌, ℕ, Result, Ok, Err}
use Rattle.bus_ticks.specs.declared.profile.Profile.{Profile}
use Rattle.image.specs.Image.{Words}
use Rattle.control_flow.specs.Flow.{Flow}
use Rattle.control_flow.specs.Graph.{IsBuildFault, IsFlowGraph}
use Rattle.control_flow.specs.declared.faults.BuildFault.{BuildFault}
use Rattle.control_flow.specs.declared.faults.BuildFault.TheVariants as build_fault
use Rattle.statement.specs.Stated.{Stated}
use Rattle.loop_bounds.specs.Bounds.{IsGreatestCost}
use Rattle.loop_bounds.specs.Nest.{Applies, IsNestFault}
use Rattle.loop_bounds.specs.declared.fault.NestFault.{NestFault}
use Rattle.loop_bounds.specs.declared.fault.NestFault.TheVariants as nest_fault
use Rattle.numbered_walks.specs.declared.fault.WalkFault.{WalkFault}
use Rattle.numbered_walks.specs.declared.fault.WalkFault.TheVariants as walk_fault
use Rattle.handlers.specs.Report.{IsWalkRefusal}
use Rattle.handlers.specs.declared.fault.ReportFault.{ReportFault}
use Rattle.handlers.specs.declared.fault.ReportFault.TheVariants as report_fault

module _ (words : Words) (stated : Stated) (profile : Profile) where
  -- no refusal of a graph holds, and this is the graph
  pub record IsGraphOf (flow : Flow) : Type 0 where
    pub no_fault : (f : BuildFault) → f ≢ build_fault.Memory → IsBuildFault words stated profile f → ⊥
    pub graph_is : IsFlowGraph words stated profile flow

  -- and no refusal of the loops holds
  pub record IsLoopedGraphOf (flow : Flow) : Type 0 where
    pub graph : IsGraphOf flow
    pub no_fault : (f : NestFault) → f ≢ nest_fault.Memory → Applies flow stated.loops f → ⊥

  -- and none of the walk; this is the greatest cost
  pub record IsBoundOf (bound : ℕ) : Type 0 where
    pub flow : Flow
    pub loops : IsLoopedGraphOf flow
    pub no_fault : (f : WalkFault) → f ≢ walk_fault.Memory → IsWalkRefusal flow stated.loops f → ⊥
    pub greatest : IsGreatestCost flow stated.loops bound

  -- a fault of the graph
  pub record HasNoGraphFor (fault : BuildFault) : Type 0 where
    pub not_memory : fault ≢ build_fault.Memory
    pub holds : IsBuildFault words stated profile fault

  -- a fault of the loops, of a graph
  pub record HasNoLoopsFor (fault : NestFault) : Type 0 where
    pub flow : Flow
    pub graph : IsGraphOf flow
    pub not_memory : fault ≢ nest_fault.Memory
    pub holds : IsNestFault flow stated.loops fault

  -- a fault of the walk, of a graph and its loops
  pub record HasNoWalkFor (fault : WalkFault) : Type 0 where
    pub flow : Flow
    pub loops : IsLoopedGraphOf flow
    pub not_memory : fault ≢ walk_fault.Memory
    pub holds : IsWalkRefusal flow stated.loops fault

  -- why there is no bound: the first in the order of the work; no other fault comes
  abbrev pub IsRefusalOf : ReportFault → Type 0
  IsRefusalOf (report_fault.Graph fault) = HasNoGraphFor fault
  IsRefusalOf (report_fault.Loops fault) = HasNoLoopsFor fault
  IsRefusalOf (report_fault.Walk fault) = HasNoWalkFor fault
  IsRefusalOf fault = ⊥

  -- the bound, or why there is none
  abbrev pub IsAnswerOf : Result ℕ ReportFault → Type 0
  IsAnswerOf (Ok bound) = IsBoundOf bound
  IsAnswerOf (Err fault) = IsRefusalOf fault
