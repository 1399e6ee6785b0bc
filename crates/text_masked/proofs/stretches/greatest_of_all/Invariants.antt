use Rattle.text_masked.specs.Held.{IsGreatestOfAll}
use Rattle.text_masked.proofs.stretches.greatest_of_all.Given as goal

abbrev pub invariant-loop-number : goal.invariant-loop-number
invariant-loop-number l = IsGreatestOfAll l.graph.edges.now l.graph.spans.now l.number l.greatest
