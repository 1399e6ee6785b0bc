use Rattle.std.proofs.Common.{Bool, drop, length}
use Rattle.cert_check.specs.declared.walker.Walker.{Walker}
use Rattle.cert_check.specs.Followed.{followed}
use Rattle.cert_check.specs.Walking.{CanFollow, Follows}
use Rattle.cert_check.proofs.walk_trace.+walk.Given as goal

abbrev pub invariant-follow_all-loop-item : goal.invariant-follow_all-loop-item
invariant-follow_all-loop-item l = CanFollow l.indexed.graph.now l.indexed.tree.now l.indexed.index.now l.within l.walker × ((new : Walker) (b : Bool) → Follows l.indexed.graph.now l.indexed.tree.now l.indexed.index.now l.within l.levels (length (drop l.item-index l.items)) (followed l.indexed.graph.now (drop l.item-index l.items)) l.walker new b
    → Follows l.indexed.graph.now l.indexed.tree.now l.indexed.index.now l.within l.levels (length l.items) (followed l.indexed.graph.now l.items) l.initial.walker new b)
