use Rattle.std.proofs.Common.{◌*◌, ◌≤◌}
use Rattle.kept_runs.specs.Following.{CanGo}
use Rattle.kept_runs.proofs.SoFar.{SoFar}
use Rattle.kept_runs.proofs.following.follow_whole.Given as goal

abbrev pub invariant-loop-input : goal.invariant-loop-input
invariant-loop-input l =
    SoFar l.handler.image.now l.handler.statement l.handler.graph l.handler.tree l.fn.machine l.inputs l.input-index l.follower l.machine
    × CanGo l.handler.graph l.handler.tree l.follower l.machine × (l.follower.steps ≤ l.input-index) × (l.follower.ticks ≤ l.input-index * 65536)
