use Rattle.std.proofs.Common.{◌<◌, ◌+◌, ◌++◌, ◌∙◌, List, [], ap, arith, drop, false, get_or, length, map, subst, sym}
use Rattle.std.proofs.lemmas.List.{take_rest}
use Rattle.text_refusals.specs.Courses.{after}
use Rattle.text_refusals.specs.FaultyItems.{has_in}
use Rattle.text_refusals.specs.Outline.{item_of}
use Rattle.text_refusals.specs.Refused.{Adds, item_rows, rows, shown}
use Rattle.text_refusals.specs.declared.course.Course.{Course}
use Rattle.text_refusals.specs.declared.outline.OutlineItem.{OutlineItem as CodeItem}
use Rattle.text_refusals.specs.declared.outline.OutlineItem.TheVariants.{Begins}
use Rattle.text_refusals.proofs.CourseLemmas.{IsUpTo, after_up_to}
use Rattle.text_refusals.proofs.RefusedLemmas.{adds_first, rows_more}
use Rattle.text_refusals.proofs.report.Report.put_rows.Goals as goal

pub loop-index-preserved : goal.loop-index-preserved
loop-index-preserved c =
    let has = has_in c.args.asked.now in
    let items = c.args.items.now in
    let k = c.loop-index.index in
    let course = c.loop-index.course in
    let none : CodeItem = Begins (record { line = 0; name = record { ref_ptr = (0, 0); now = [] }; is_listed = false }) in
    let i = item_of (get_or items k none) in
    let rest = map item_of (drop (k + 1) items) in
    let low : k < length items = omega (arith, c.loop-index-test.true) in
    let added =
    subst (λ (es : List CodeItem). Adds (item_rows has course i (map item_of es)) c.loop-index.self c.put_of_item.new.self)
    (take_rest items (k + 1)) c.in_ok-put_of_item.ensures in
    record {
      within = subst (λ (d : Course). IsUpTo (k + 1) d) (sym c.after-course.ensures) (after_up_to k course i c.loop-index.invariant.within);
      same = λ more.
          ap (λ (d : Course). c.put_of_item.new.self.text.items ++ shown c.put_of_item.new.self.left (rows has d rest ++ more)) c.after-course.ensures
          ∙ (adds_first (item_rows has course i rest) (rows has (after course i) rest) _ c.loop-index.self c.put_of_item.new.self added
          (rows_more has course items k none low) more
          ∙ c.loop-index.invariant.same more);
    }
