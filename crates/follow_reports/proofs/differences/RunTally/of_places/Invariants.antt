use Rattle.follow_reports.specs.Differences.{HasAdded}
use Rattle.follow_reports.proofs.differences.RunTally.of_places.Given as goal

abbrev pub invariant-loop-index : goal.invariant-loop-index
invariant-loop-index l = HasAdded l.graph.places l.by_place l.index l.tally
