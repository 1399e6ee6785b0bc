use Rattle.std.proofs.Common.{◌≤◌, ◌+◌, ◌++◌, ◌∙◌, [], ap, drop, false, get_or, map, subst, sym}
use Rattle.text_refusals.specs.FileCourses.{after}
use Rattle.text_refusals.specs.FileRows.{has_in, item_rows, kind_of, rows}
use Rattle.text_refusals.specs.Outline.{item_of}
use Rattle.text_refusals.specs.Refused.{shown}
use Rattle.text_refusals.specs.declared.file_course.FileCourse.{FileCourse}
use Rattle.text_refusals.specs.declared.outline.OutlineItem.{OutlineItem as CodeItem}
use Rattle.text_refusals.specs.declared.outline.OutlineItem.TheVariants.{Begins}
use Rattle.text_refusals.proofs.FileCourseLemmas.{after_up_to, total}
use Rattle.text_refusals.proofs.FileLemmas.{rows_more}
use Rattle.text_refusals.proofs.RefusedLemmas.{adds_first}
use Rattle.text_refusals.proofs.report.Report.put_file_rows.Goals as goal

pub loop-item-preserved : goal.loop-item-preserved
loop-item-preserved c =
    let has = has_in c.args.asked.now in
    let kind = kind_of c.args.asked.now in
    let items = c.args.items.now in
    let n = c.loop-item.item-index in
    let course = c.loop-item.course in
    let none : CodeItem = Begins (record { line = 0; name = record { ref_ptr = (0, 0); now = [] }; is_listed = false }) in
    let i = item_of (get_or items n none) in
    let rest = map item_of (drop (n + 1) items) in
    record {
      within = subst (λ (d : FileCourse). total d ≤ n + 1) (sym c.after-course.ensures) (after_up_to n course i c.loop-item.invariant.within);
      same = λ more.
          ap (λ (d : FileCourse). c.put_of_file_item.new.self.text.items ++ shown c.put_of_file_item.new.self.left (rows has kind d rest ++ more)) c.after-course.ensures
          ∙ (adds_first (item_rows has kind course i) (rows has kind (after course i) rest) _ c.loop-item.self c.put_of_file_item.new.self c.in_ok-put_of_file_item.ensures
          (rows_more has kind course items n none c.loop-item-test.true) more
          ∙ c.loop-item.invariant.same more);
    }
