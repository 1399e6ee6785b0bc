use Rattle.std.proofs.Common.{take}
use Rattle.responses.specs.Response.{IsWorstStepAt}
use Rattle.responses.proofs.arriving.worst_step_at.Given as goal

abbrev pub invariant-loop-edge : goal.invariant-loop-edge
invariant-loop-edge l =
    IsWorstStepAt (record l.graph { edges = take l.edge-index l.edge-items }) l.address l.worst
