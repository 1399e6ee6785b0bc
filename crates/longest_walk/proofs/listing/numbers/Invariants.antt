use Rattle.loop_bounds.specs.Layout.{AreNumbers}
use Rattle.longest_walk.proofs.listing.numbers.Given as goal

abbrev pub invariant-loop-number : goal.invariant-loop-number
invariant-loop-number l = AreNumbers l.tree.order l.numbers.items l.number
