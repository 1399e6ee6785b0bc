use Rattle.justify_reports.specs.RowTexts.{IsRowText}
use Rattle.text_rows.proofs.RowLaws.{SoFar}
use Rattle.justify_reports.proofs.row_texts.put_rows.Given as goal

abbrev pub invariant-loop-row : goal.invariant-loop-row
invariant-loop-row l =
    SoFar (IsRowText l.sight.read.now l.sight.read.now.image) l.rows l.row-index l.initial.out.items l.out.items
