use Rattle.text_rows.proofs.RowLaws.{SoFar}
use Rattle.text_page.specs.Noting.{noted_in}
use Rattle.text_page.specs.Rows.{IsLine}
use Rattle.text_page.proofs.listing.put_lines.Given as goal

abbrev pub invariant-loop-line : goal.invariant-loop-line
invariant-loop-line l = SoFar (IsLine (noted_in l.notes) l.bound) l.lines l.line-index l.initial.out.items l.out.items
