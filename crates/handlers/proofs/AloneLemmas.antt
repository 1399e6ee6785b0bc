-- The bound of words and of what is stated of them, from what the parts of the work return.
use Rattle.std.proofs.Common.{◌≢◌, ℕ, refl}
use Rattle.bus_ticks.specs.declared.profile.Profile.{Profile}
use Rattle.image.specs.Image.{Words}
use Rattle.control_flow.specs.Flow.{Flow}
use Rattle.statement.specs.Stated.{Stated}
use Rattle.loop_bounds.specs.Handler.{IsTreeOf}
use Rattle.loop_bounds.specs.Nest.{Applies, IsNestFault}
use Rattle.loop_bounds.specs.Tree.{Tree}
use Rattle.loop_bounds.specs.declared.fault.NestFault.{NestFault}
use Rattle.loop_bounds.specs.declared.fault.NestFault.TheVariants as nest_fault
use Rattle.longest_walk.specs.Longest.{IsLongest, IsWalkFault}
use Rattle.longest_walk.specs.declared.folded.Longest.{Longest}
use Rattle.numbered_walks.specs.declared.fault.WalkFault.{WalkFault}
use Rattle.numbered_walks.specs.declared.fault.WalkFault.TheVariants as walk_fault
use Rattle.handlers.specs.Alone.{IsBoundOf, IsGraphOf, IsLoopedGraphOf, IsRefusalOf}
use Rattle.handlers.specs.Faults.{of_loops, of_walk}
use Rattle.handlers.specs.declared.fault.ReportFault.TheVariants.{Memory}
use Rattle.handlers.proofs.ReportLemmas.{fault_here, fault_there, tree_is_greatest}

module _ (words : Words) (stated : Stated) (profile : Profile) (flow : Flow) where
  pub loops_refused : IsGraphOf words stated profile flow → (f : NestFault) → IsNestFault flow stated.loops f
      → of_loops f ≢ Memory → IsRefusalOf words stated profile (of_loops f)
  loops_refused graph nest_fault.Memory h other = absurd (other refl)
  loops_refused graph nest_fault.LoopsCross h other =
      record { flow = flow; graph = graph; not_memory = λ e. cc e; holds = h }
  loops_refused graph nest_fault.SharedHeader h other =
      record { flow = flow; graph = graph; not_memory = λ e. cc e; holds = h }
  loops_refused graph nest_fault.EntersMidLoop h other =
      record { flow = flow; graph = graph; not_memory = λ e. cc e; holds = h }
  loops_refused graph nest_fault.UnboundedCycle h other =
      record { flow = flow; graph = graph; not_memory = λ e. cc e; holds = h }
  loops_refused graph nest_fault.NestedTooDeep h other =
      record { flow = flow; graph = graph; not_memory = λ e. cc e; holds = h }

  pub looped : IsGraphOf words stated profile flow
      → ((f : NestFault) → f ≢ nest_fault.Memory → Applies flow stated.loops f → ⊥)
      → IsLoopedGraphOf words stated profile flow
  looped graph none = record { graph = graph; no_fault = none }

  module _ (loops : IsLoopedGraphOf words stated profile flow) (tree : Tree)
      (of : IsTreeOf flow stated.loops tree) where
    pub walk_refused : (f : WalkFault) → IsWalkFault flow tree f → of_walk f ≢ Memory
        → IsRefusalOf words stated profile (of_walk f)
    walk_refused walk_fault.Memory h other = absurd (other refl)
    walk_refused walk_fault.NoCompleteWalk h other =
        record {
          flow = flow;
          loops = loops;
          not_memory = λ e. cc e;
          holds = fault_here flow stated.loops tree of.instances walk_fault.NoCompleteWalk h;
        }
    walk_refused walk_fault.BoundTooLarge h other =
        record {
          flow = flow;
          loops = loops;
          not_memory = λ e. cc e;
          holds = fault_here flow stated.loops tree of.instances walk_fault.BoundTooLarge h;
        }

    pub bound_found : (l : Longest) → IsLongest flow tree l
        → ((f : WalkFault) → f ≢ walk_fault.Memory → IsWalkFault flow tree f → ⊥)
        → IsBoundOf words stated profile l.bound
    bound_found l is allowed = record {
      flow = flow;
      loops = loops;
      no_fault = λ f not_memory h. allowed f not_memory (fault_there flow stated.loops tree of.instances f h);
      greatest = tree_is_greatest flow stated.loops tree of.instances l.bound is.greatest;
    }
