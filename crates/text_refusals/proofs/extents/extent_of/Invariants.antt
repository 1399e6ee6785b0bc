use Rattle.text_refusals.proofs.ExtentLemmas.{IsSoFar}
use Rattle.text_refusals.proofs.extents.extent_of.Given as goal

abbrev pub invariant-loop-edge : goal.invariant-loop-edge
invariant-loop-edge l = IsSoFar l.cycle l.list l.header l.edge-index l.extent
