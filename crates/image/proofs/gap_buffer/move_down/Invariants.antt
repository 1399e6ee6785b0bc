use Rattle.std.proofs.Common.{◌≡◌, ◌++◌, length}
use Rattle.image.proofs.GapLemmas.{Below}
use Rattle.image.proofs.gap_buffer.move_down.Given as goal

abbrev pub invariant-loop-entry : goal.invariant-loop-entry
invariant-loop-entry l = (l.below.items ++ l.above.items ≡ l.initial.below.items ++ l.initial.above.items) × Below l.address l.below.items

abbrev pub decreases-loop-entry : goal.decreases-loop-entry
decreases-loop-entry l = length l.above.items
