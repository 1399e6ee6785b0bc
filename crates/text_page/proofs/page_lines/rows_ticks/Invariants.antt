use Rattle.std.proofs.Common.{◌≡◌, take}
use Rattle.text_page.specs.Folds.{rows_ticks}
use Rattle.text_page.proofs.page_lines.rows_ticks.Given as goal

abbrev pub invariant-loop-row : goal.invariant-loop-row
invariant-loop-row l = l.ticks ≡ rows_ticks (take l.row-index l.rows)
