use Rattle.loop_bounds.specs.Extents.{AreSeen}
use Rattle.loop_bounds.proofs.loop_instances.shares_header.Given as goal

abbrev pub invariant-loop-stated : goal.invariant-loop-stated
invariant-loop-stated l = AreSeen l.loops l.headers l.stated-index
