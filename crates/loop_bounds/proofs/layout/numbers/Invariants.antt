use Rattle.loop_bounds.specs.Layout.{AreNumbers}
use Rattle.loop_bounds.proofs.layout.numbers.Given as goal

abbrev pub invariant-loop-number : goal.invariant-loop-number
invariant-loop-number l = AreNumbers l.order l.numbers.items l.number
