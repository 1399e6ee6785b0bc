use Rattle.text_masked.proofs.MarkLemmas.{AreFirst}
use Rattle.text_masked.proofs.marked.marked_edges.Given as goal

abbrev pub invariant-loop-number : goal.invariant-loop-number
invariant-loop-number l = AreFirst l.image l.mask l.steps l.edges l.marked.items l.number
