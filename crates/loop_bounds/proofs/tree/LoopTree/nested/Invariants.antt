use Rattle.loop_bounds.specs.NestedParts.{AreNestedUpto}
use Rattle.loop_bounds.proofs.tree.LoopTree.nested.Given as goal

abbrev pub invariant-loop-k : goal.invariant-loop-k
invariant-loop-k l = AreNestedUpto l.graph l.self l.outermost l.k
