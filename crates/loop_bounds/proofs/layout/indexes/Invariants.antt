use Rattle.loop_bounds.specs.Layout.{AreIndexes}
use Rattle.loop_bounds.proofs.layout.indexes.Given as goal

abbrev pub invariant-loop-n : goal.invariant-loop-n
invariant-loop-n l = AreIndexes l.places l.listed l.order l.indexes.items l.n
