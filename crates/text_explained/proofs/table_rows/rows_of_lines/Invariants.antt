use Rattle.std.proofs.Common.{◌≡◌, ◌≤◌, ◌+◌, ◌++◌, drop, length, map}
use Rattle.asm_text.specs.Source.{lines_of}
use Rattle.text_explained.specs.Costing.{figures_of}
use Rattle.text_explained.specs.Table.{line_rows, row_of}
use Rattle.text_explained.proofs.table_rows.rows_of_lines.Given as goal

abbrev pub invariant-loop-line : goal.invariant-loop-line
invariant-loop-line l = record {
  count : l.number + length l.rest ≤ length l.source + 1;
  same : map row_of l.rows.items ++ line_rows (figures_of l.costing) l.number (lines_of l.rest) (drop l.line-index l.placed)
      ≡ line_rows (figures_of l.costing) 1 (lines_of l.source) l.placed;
}
