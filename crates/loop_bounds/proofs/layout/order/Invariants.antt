use Rattle.loop_bounds.specs.Layout.{ArePositions}
use Rattle.loop_bounds.proofs.layout.order.Given as goal

abbrev pub invariant-loop-position : goal.invariant-loop-position
invariant-loop-position l = ArePositions l.position-items l.order.items l.position-index
