use Rattle.std.proofs.Common.{◌≡◌, ◌≤◌, ◌+◌, ◌-◌, ◌*◌, ◌^◌, ◌++◌}
use Rattle.text_rows.specs.Lines.{rows_from}
use Rattle.text_rows.proofs.rows_of_lines.ByWordLineRows.put.Given as goal

abbrev pub invariant-loop : goal.invariant-loop
invariant-loop g l = record {
  room : l.at + 4 * (l.fn.placed.words - l.counter) ≤ 2 ^ 26;
  same : l.out.items ++ rows_from (g.R.WordRows.word_row l.self.rows.now l.line.number l.line.text.now) l.at (l.fn.placed.words - l.counter)
      ≡ l.initial.out.items ++ rows_from (g.R.WordRows.word_row l.self.rows.now l.line.number l.line.text.now) l.fn.placed.at l.fn.placed.words;
}
