use Rattle.loop_bounds.specs.Layout.{AreFirsts}
use Rattle.loop_bounds.proofs.ranks.firsts_of.Given as goal

abbrev pub invariant-loop-node : goal.invariant-loop-node
invariant-loop-node l = AreFirsts l.edges l.firsts.items l.node-counter
