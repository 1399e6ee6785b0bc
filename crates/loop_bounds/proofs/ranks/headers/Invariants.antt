use Rattle.loop_bounds.specs.Layout.{AreHeaders}
use Rattle.loop_bounds.proofs.ranks.headers.Given as goal

abbrev pub invariant-loop-k : goal.invariant-loop-k
invariant-loop-k l = AreHeaders l.extents l.k l.nodes l.headers.items
