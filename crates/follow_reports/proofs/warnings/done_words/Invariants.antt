use Rattle.std.specs.BTreeSet.{contains}
use Rattle.std.specs.Ordering.{nat_cmp}
use Rattle.follow_reports.specs.FollowWork.{HasDone}
use Rattle.follow_reports.proofs.warnings.done_words.Given as goal

abbrev pub invariant-loop-index : goal.invariant-loop-index
invariant-loop-index l = HasDone l.graph.places l.by_place l.index (contains nat_cmp l.done)
