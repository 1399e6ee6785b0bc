use Rattle.loop_bounds.specs.Extents.{IsOpen, height}
use Rattle.loop_bounds.proofs.parents.climb.Given as goal

abbrev pub invariant-loop-current : goal.invariant-loop-current
invariant-loop-current l = IsOpen l.extents l.limit l.position l.current

abbrev pub decreases-loop-current : goal.decreases-loop-current
decreases-loop-current l = height l.current
