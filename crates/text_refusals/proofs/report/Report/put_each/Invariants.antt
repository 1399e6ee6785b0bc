use Rattle.std.proofs.Common.{◌≡◌, ◌++◌, List, drop, map}
use Rattle.std.specs.Prelude.{option_map}
use Rattle.text_refusals.specs.FileRows.{each_row, has_in, said_of, spot_of}
use Rattle.text_refusals.specs.Outline.{table_of}
use Rattle.text_refusals.specs.Refused.{Row, shown}
use Rattle.text_refusals.proofs.report.Report.put_each.Given as goal

abbrev pub invariant-loop-spot : goal.invariant-loop-spot
invariant-loop-spot l =
    (more : List Row) → l.self.text.items ++ shown l.self.left (each_row (has_in l.asked) (said_of (option_map (λ t. table_of t.now) l.table)) (map spot_of (drop l.spot-index l.spots)) ++ more)
    ≡ l.fn.self.text.items ++ shown l.fn.self.left (each_row (has_in l.asked) (said_of (option_map (λ t. table_of t.now) l.table)) (map spot_of l.spots) ++ more)
