use Rattle.std.proofs.Common.{◌≡◌, ◌++◌, take}
use Rattle.text_explained.specs.Printed.{cells}
use Rattle.text_explained.proofs.printed_rows.put_cells.Given as goal

abbrev pub invariant-loop-column : goal.invariant-loop-column
invariant-loop-column l = l.out.items ≡ l.initial.out.items ++ cells l.widths l.line (take l.column-index l.columns)
