use Rattle.std.proofs.Common.{◌-◌}
use Rattle.control_flow.specs.Search.{IsFound, IsSearch}
use Rattle.control_flow.proofs.building.explore.Given as goal

abbrev pub invariant-loop-next : goal.invariant-loop-next
invariant-loop-next l = IsFound l.seen l.order.items × IsSearch l.inputs.image.now l.inputs.statement.now l.inputs.profile.now l.order.items l.next

abbrev pub decreases-loop-next : goal.decreases-loop-next
decreases-loop-next l = 16384 - l.next
