use Rattle.std.proofs.Common.{◌≡◌, ◌≤◌, ◌+◌, ◌++◌, drop, length}
use Rattle.asm_text.specs.Source.{lines_of}
use Rattle.text_rows.specs.Lines.{rows_by_line}
use Rattle.text_rows.proofs.rows_of_lines.put_line_rows.Given as goal

abbrev pub invariant-loop-line : goal.invariant-loop-line
invariant-loop-line g l = record {
  count : l.number + length l.rest ≤ length l.source + 1;
  same : l.out.items ++ rows_by_line (g.R.LineRows.rows l.rows) l.number (lines_of l.rest) (drop l.line-index l.placed)
      ≡ l.initial.out.items ++ rows_by_line (g.R.LineRows.rows l.rows) 1 (lines_of l.source) l.placed;
}
