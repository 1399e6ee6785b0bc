use Rattle.std.proofs.Common.{◌≡◌, ◌++◌, List, drop, map}
use Rattle.text_refusals.specs.Courses.{at_front}
use Rattle.text_refusals.specs.FaultyItems.{has_in}
use Rattle.text_refusals.specs.Outline.{item_of}
use Rattle.text_refusals.specs.Refused.{Row, rows, shown}
use Rattle.text_refusals.proofs.CourseLemmas.{IsUpTo}
use Rattle.text_refusals.proofs.report.Report.put_rows.Given as goal

abbrev pub invariant-loop-index : goal.invariant-loop-index
invariant-loop-index l = record {
  within : IsUpTo l.index l.course;
  same : (more : List Row) → l.self.text.items ++ shown l.self.left (rows (has_in l.asked) l.course (map item_of (drop l.index l.items)) ++ more)
      ≡ l.fn.self.text.items ++ shown l.fn.self.left (rows (has_in l.asked) at_front (map item_of l.items) ++ more);
}
