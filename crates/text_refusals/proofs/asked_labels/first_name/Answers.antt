use Rattle.std.proofs.Common.{◌<◌, ◌+◌, ◌∙◌, [], ap, arith, drop, false, get_or, length, map, subst, sym}
use Rattle.text_refusals.specs.AskedLabels.{first_name}
use Rattle.text_refusals.specs.Courses.{after, at_front}
use Rattle.text_refusals.specs.FaultyItems.{has_in}
use Rattle.text_refusals.specs.Outline.{item_of}
use Rattle.text_refusals.specs.declared.course.Course.{Course}
use Rattle.text_refusals.specs.declared.outline.OutlineItem.{OutlineItem as CodeItem}
use Rattle.text_refusals.specs.declared.outline.OutlineItem.TheVariants.{Begins}
use Rattle.text_refusals.proofs.CourseLemmas.{IsUpTo, after_up_to}
use Rattle.text_refusals.proofs.FirstLemmas.{gives, gives_none}
use Rattle.text_refusals.proofs.asked_labels.first_name.Goals as goal

pub returns-then-is_some : goal.returns-then-is_some
returns-then-is_some c =
    let has = has_in c.args.asked.now in
    let items = c.args.items.now in
    let none : CodeItem = Begins (record { line = 0; name = record { ref_ptr = (0, 0); now = [] }; is_listed = false }) in
    gives (λ n. n.now) c.args.labels.now has c.loop-index.course items c.loop-index.index none c.name_at-name.result
    (first_name c.args.labels.now has at_front (map item_of items)) c.loop-index-test.true c.name_at-name.ensures c.loop-index.invariant.same
    (sym c.is_some.ensures ∙ c.if-is_some.true)

pub loop-index-preserved : goal.loop-index-preserved
loop-index-preserved c =
    let has = has_in c.args.asked.now in
    let items = c.args.items.now in
    let k = c.loop-index.index in
    let course = c.loop-index.course in
    let none : CodeItem = Begins (record { line = 0; name = record { ref_ptr = (0, 0); now = [] }; is_listed = false }) in
    let i = item_of (get_or items k none) in
    record {
      within = subst (λ (d : Course). IsUpTo (k + 1) d) (sym c.after-course.ensures) (after_up_to k course i c.loop-index.invariant.within);
      same =
          ap (λ (d : Course). first_name c.args.labels.now has d (map item_of (drop (k + 1) items))) c.after-course.ensures
          ∙ gives_none (λ n. n.now) c.args.labels.now has course items k none c.name_at-name.result
          (first_name c.args.labels.now has at_front (map item_of items)) c.loop-index-test.true c.name_at-name.ensures c.loop-index.invariant.same
          (sym c.is_some.ensures ∙ c.if-is_some.false);
    }
