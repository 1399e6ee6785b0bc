use Rattle.std.proofs.Common.{◌≡◌, ◌++◌, List, drop}
use Rattle.text_refusals.specs.FaultyItems.{has_in}
use Rattle.text_refusals.specs.Outline.{table_of}
use Rattle.text_refusals.specs.Refused.{Row, missing_rows, shown}
use Rattle.text_refusals.proofs.report.Report.put_missing.Given as goal

abbrev pub invariant-loop-key : goal.invariant-loop-key
invariant-loop-key l =
    (more : List Row) → l.self.text.items ++ shown l.self.left (missing_rows (has_in l.asked) l.entry.list l.entry.index (table_of l.entry.table.now) (drop l.key-index l.keys) ++ more)
    ≡ l.fn.self.text.items ++ shown l.fn.self.left (missing_rows (has_in l.asked) l.entry.list l.entry.index (table_of l.entry.table.now) l.keys ++ more)
