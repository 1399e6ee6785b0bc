use Rattle.std.proofs.Common.{◌≡◌, ◌≤◌, length}
use Rattle.loop_bounds.specs.Extents.{AreParents}
use Rattle.loop_bounds.proofs.parents.parents.Given as goal

abbrev pub invariant-loop-k : goal.invariant-loop-k
invariant-loop-k l = (length l.parents.items ≡ l.k) × (l.k ≤ length l.extents) × AreParents l.extents l.parents.items l.k
