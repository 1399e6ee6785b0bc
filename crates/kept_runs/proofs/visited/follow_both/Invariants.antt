use Rattle.std.proofs.Common.{◌-◌, length}
use Rattle.kept_runs.proofs.VisitSteps.{IsFollowing}
use Rattle.kept_runs.proofs.visited.follow_both.Given as goal

abbrev pub invariant-loop-done : goal.invariant-loop-done
invariant-loop-done l = IsFollowing l.both l.fn.machine l.inputs l.done l.followers l.machine

abbrev pub decreases-loop-done : goal.decreases-loop-done
decreases-loop-done l = length l.inputs - l.done
