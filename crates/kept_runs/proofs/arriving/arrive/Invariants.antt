use Rattle.std.proofs.Common.{◌≡◌}
use Rattle.control_flow.specs.Flow.{Flow}
use Rattle.kept_runs.specs.Judging.{IsMachineFor}
use Rattle.kept_runs.proofs.ArrivalLemmas.{SoFarAway}
use Rattle.kept_runs.proofs.arriving.arrive.Given as goal

abbrev pub invariant-loop-input : goal.invariant-loop-input
invariant-loop-input l = record {
  counted : l.steps ≡ l.input-index;
  so_far : SoFarAway l.address l.initial.machine l.inputs l.input-index l.machine;
  fit : (flow : Flow) → IsMachineFor flow l.initial.machine → IsMachineFor flow l.machine;
}
