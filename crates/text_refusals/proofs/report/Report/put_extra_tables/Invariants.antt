use Rattle.std.proofs.Common.{◌≡◌, ◌++◌, List, drop, map}
use Rattle.text_refusals.specs.FaultyItems.{has_in}
use Rattle.text_refusals.specs.Outline.{item_of}
use Rattle.text_refusals.specs.Refused.{Row, limit_of, rows_of_limits, shown}
use Rattle.text_refusals.proofs.report.Report.put_extra_tables.Given as goal

abbrev pub invariant-loop-limit : goal.invariant-loop-limit
invariant-loop-limit l =
    (more : List Row) → l.self.text.items ++ shown l.self.left (rows_of_limits (has_in l.asked) (map limit_of (drop l.limit-index l.limits)) (map item_of l.items) ++ more)
    ≡ l.fn.self.text.items ++ shown l.fn.self.left (rows_of_limits (has_in l.asked) (map limit_of l.limits) (map item_of l.items) ++ more)
