use Rattle.responses.specs.Arriving.{IsGreatestThere}
use Rattle.responses.proofs.ways.greatest_there.Given as goal

abbrev pub invariant-loop-number : goal.invariant-loop-number
invariant-loop-number l = IsGreatestThere l.graph.edges.now l.graph.spans.now l.ways l.number l.greatest
