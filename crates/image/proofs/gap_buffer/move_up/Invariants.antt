use Rattle.std.proofs.Common.{◌≡◌, ◌++◌, length}
use Rattle.image.proofs.gap_buffer.move_up.Given as goal

abbrev pub invariant-loop-entry : goal.invariant-loop-entry
invariant-loop-entry l = l.below.items ++ l.above.items ≡ l.initial.below.items ++ l.initial.above.items

abbrev pub decreases-loop-entry : goal.decreases-loop-entry
decreases-loop-entry l = length l.below.items
