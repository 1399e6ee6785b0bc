use Rattle.loop_bounds.specs.Layout.{AreHeights}
use Rattle.loop_bounds.proofs.ranks.heights.Given as goal

abbrev pub invariant-loop-k : goal.invariant-loop-k
invariant-loop-k l = AreHeights l.order l.heights.items l.nodes l.k
