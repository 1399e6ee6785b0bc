use Rattle.std.proofs.Common.{◌≡◌, ◌++◌, [], drop}
use Rattle.text_page.specs.Folding.{parts_in}
use Rattle.text_page.specs.Folds.{lines_from}
use Rattle.text_page.proofs.page_lines.page_lines.Given as goal

-- what is left to show is the rest of the whole
abbrev pub invariant-loop-number : goal.invariant-loop-number
invariant-loop-number l = l.lines.items ++ lines_from (parts_in l.foldable) l.nest.items (drop l.number l.rows) ≡ lines_from (parts_in l.foldable) [] l.rows
