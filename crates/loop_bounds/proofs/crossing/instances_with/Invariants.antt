use Rattle.loop_bounds.proofs.FindLemmas.{AreWith}
use Rattle.loop_bounds.proofs.crossing.instances_with.Given as goal

abbrev pub invariant-loop-stated : goal.invariant-loop-stated
invariant-loop-stated l = AreWith l.loops.apart l.places l.stated-items l.list l.found.items l.stated-index
