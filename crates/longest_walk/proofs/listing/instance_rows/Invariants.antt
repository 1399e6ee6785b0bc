use Rattle.longest_walk.proofs.RowLemmas.{AreInstanceRowsTo}
use Rattle.longest_walk.proofs.listing.instance_rows.Given as goal

abbrev pub invariant-loop-index : goal.invariant-loop-index
invariant-loop-index l = AreInstanceRowsTo l.tree l.tables l.index l.rows.items
