use Rattle.std.proofs.Common.{◌∙◌, sym}
use Rattle.std.proofs.lemmas.Result.{on_ok_weaker}
use Rattle.std.specs.BTreeMap.{get}
use Rattle.std.specs.Ordering.{nat_cmp}
use Rattle.justify_reports.proofs.OutsideLemmas.{passed, put}
use Rattle.justify_reports.proofs.outside.put_place.Goals as goal

pub returns-in_default : goal.returns-in_default
returns-in_default c = λ found.
    let h = c.args.handler.now in
    passed h.graph h.tree c.args.outside.now c.args.number (get nat_cmp c.args.found.now) (sym c.place_in.ensures ∙ c.in_default.is) found

pub returns : goal.returns
returns c = λ found.
    let h = c.args.handler.now in
    on_ok_weaker c.put_range.result
    (λ puts. put h.graph h.tree c.args.outside.now c.args.number (get nat_cmp c.args.found.now) c.in-At.field-0 c.in-At.address
    c.outside_at-range.result (get nat_cmp c.put_range.new.found) (sym c.place_in.ensures ∙ c.in-At.is)
    (sym c.outside_at-range.ensures) puts found)
    c.put_range.ensures
