use Rattle.std.proofs.Common.{◌≡◌, length, reverse}
use Rattle.objasm.specs.Evaluation.{reduced}
use Rattle.objasm.proofs.evaluation.reduce.Given as goal

abbrev pub invariant-loop-waiting : goal.invariant-loop-waiting
invariant-loop-waiting l = reduced l.by (reverse l.stack.items) l.value ≡ reduced l.fn.by (reverse l.fn.stack.items) l.fn.value

abbrev pub decreases-loop-waiting : goal.decreases-loop-waiting
decreases-loop-waiting l = length l.stack.items
