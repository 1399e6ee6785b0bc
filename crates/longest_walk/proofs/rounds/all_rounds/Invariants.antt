use Rattle.longest_walk.specs.Ways.{AreRounds}
use Rattle.longest_walk.proofs.rounds.all_rounds.Given as goal

abbrev pub invariant-loop-span : goal.invariant-loop-span
invariant-loop-span l = AreRounds l.search.graph.now l.search.tree.now l.search.tables.now l.span-index l.rounds.items
