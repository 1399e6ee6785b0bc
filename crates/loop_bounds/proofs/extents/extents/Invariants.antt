use Rattle.loop_bounds.specs.Extents.{AreExtentsUpto}
use Rattle.loop_bounds.proofs.extents.extents.Given as goal

abbrev pub invariant-loop-instance : goal.invariant-loop-instance
invariant-loop-instance l = AreExtentsUpto l.apart l.listed l.found l.extents.items l.instance
