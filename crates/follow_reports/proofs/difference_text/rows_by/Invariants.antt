use Rattle.std.specs.Prelude.{option_map}
use Rattle.text_rows.proofs.RowLaws.{SoFar}
use Rattle.text_rows.specs.WordLines.{numbered_at}
use Rattle.follow_reports.specs.DifferenceText.{IsDifferenceRow}
use Rattle.follow_reports.proofs.difference_text.rows_by.Given as goal

abbrev pub invariant-loop-difference : goal.invariant-loop-difference
invariant-loop-difference l = SoFar (IsDifferenceRow (option_map (λ l. numbered_at l.now) l.lines)) l.list l.difference-index l.initial.out.items l.out.items
