use Rattle.std.proofs.Common.{◌≡◌, ◌∙◌, ap, subst, sym}
use Rattle.std.specs.BTreeMap.{get}
use Rattle.std.specs.Ordering.{nat_cmp}
use Rattle.justify_reports.specs.Outside.{IsOutside}
use Rattle.justify_reports.specs.Rows.{class_verdict, entry_of, reach_of}
use Rattle.justify_reports.specs.Trust.{trusts_class}
use Rattle.justify_reports.proofs.OutsideLemmas.{is_outside}
use Rattle.justify_reports.proofs.rows.class_row.Goals as goal

pub returns : goal.returns
returns c =
    let h = c.args.handler.now in
    let at = c.args.at in
    let left = c.args.left in
    let class = c.class_here-class.result in
    let range = c.range_here-range.result in
    let trusted : c.has_class-trusted.result ≡ trusts_class left.trusted.now at = c.has_class-trusted.ensures ∙ c.requires.sets.classes at in
    let entry : c.entry_of.result ≡ entry_of h.statement at (reach_of class (trusts_class left.trusted.now at) range) =
    c.entry_of.ensures ∙ ap (entry_of h.statement at) (c.reach_of.ensures ∙ ap (λ t. reach_of class t range) trusted) in
    let verdict : c.class_verdict.result ≡ class_verdict (trusts_class left.trusted.now at) range =
    c.class_verdict.ensures ∙ ap (λ t. class_verdict t range) trusted in
    record {
      class = class;
      range = range;
      class_is = c.class_here-class.ensures;
      range_is =
          subst (IsOutside h.graph h.tree left.outside.now at) (sym c.range_here-range.ensures)
          (is_outside h.graph h.tree left.outside.now at (get nat_cmp left.ranges.now at) (c.requires.ranges at));
      row_is = λ i. record { entry = entry i; at = at; verdict = verdict i };
    }
