use Rattle.std.proofs.Common.{length}
use Rattle.loop_bounds.proofs.members.+holds.Given as goal

abbrev pub decreases-holds : goal.decreases-holds
decreases-holds l = length l.list.now
