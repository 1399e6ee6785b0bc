use Rattle.std.proofs.Common.{arith}
use Rattle.numbered_walks.proofs.Grouping.{none_grouped}
use Rattle.numbered_walks.proofs.groups.empty_groups.Goals as goal

pub returns : goal.returns
returns c = (omega arith, λ edges up. none_grouped edges up c.loop.groups.items c.loop.invariant.1)
