use Rattle.text_rows.proofs.RowLaws.{SoFar}
use Rattle.text_explained.specs.Printed.{IsLineText}
use Rattle.text_explained.proofs.printed_rows.put_lines.Given as goal

abbrev pub invariant-loop-line : goal.invariant-loop-line
invariant-loop-line l = SoFar (IsLineText l.layout) l.lines l.line-index l.initial.out.items l.out.items
