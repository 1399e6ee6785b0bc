use Rattle.std.proofs.Common.{◌≡◌, ◌≤◌, ◌++◌, List, drop, map}
use Rattle.text_refusals.specs.FileCourses.{at_front}
use Rattle.text_refusals.specs.FileRows.{has_in, kind_of, rows}
use Rattle.text_refusals.specs.Outline.{item_of}
use Rattle.text_refusals.specs.Refused.{Row, shown}
use Rattle.text_refusals.proofs.FileCourseLemmas.{total}
use Rattle.text_refusals.proofs.report.Report.put_file_rows.Given as goal

abbrev pub invariant-loop-item : goal.invariant-loop-item
invariant-loop-item l = record {
  within : total l.course ≤ l.item-index;
  same : (more : List Row) → l.self.text.items ++ shown l.self.left (rows (has_in l.asked) (kind_of l.asked) l.course (map item_of (drop l.item-index l.items)) ++ more)
      ≡ l.fn.self.text.items ++ shown l.fn.self.left (rows (has_in l.asked) (kind_of l.asked) at_front (map item_of l.items) ++ more);
}
