use Rattle.longest_walk.proofs.RowLemmas.{ArePlaceRowsTo}
use Rattle.longest_walk.proofs.listing.place_rows.Given as goal

abbrev pub invariant-loop-index : goal.invariant-loop-index
invariant-loop-index l = ArePlaceRowsTo l.graph l.tree l.tables l.index l.rows.items
