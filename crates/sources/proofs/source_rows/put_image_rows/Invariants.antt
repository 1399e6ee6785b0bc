use Rattle.text_rows.proofs.RowLaws.{SoFar}
use Rattle.sources.proofs.source_rows.put_image_rows.Given as goal

abbrev pub invariant-loop-at : goal.invariant-loop-at
invariant-loop-at g l = SoFar (g.R.ImageRows.is_row l.rows) l.at-items l.at-index l.initial.out.items l.out.items
