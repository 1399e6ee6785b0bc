use Rattle.loop_bounds.specs.Extents.{IsLeft, height}
use Rattle.loop_bounds.proofs.parents.enters_right.Given as goal

abbrev pub invariant-loop-inner : goal.invariant-loop-inner
invariant-loop-inner l = IsLeft l.extents l.to l.inner

abbrev pub decreases-loop-inner : goal.decreases-loop-inner
decreases-loop-inner l = height l.inner
