use Rattle.std.proofs.Common.{List}
use Rattle.control_flow.specs.declared.edges.Edge.{Edge}
use Rattle.walk_counts.specs.Counts.{AreCounts}
use Rattle.text_explained.specs.Taken.{HasAdded}
use Rattle.text_explained.proofs.walk_tally.WalkTally.of_counts.Given as goal

abbrev pub invariant-loop-number : goal.invariant-loop-number
invariant-loop-number l = (walk : List Edge) → AreCounts l.graph.edges walk l.counts → HasAdded l.graph walk l.number l.tally
