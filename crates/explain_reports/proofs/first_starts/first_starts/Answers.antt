use Rattle.std.proofs.Common.{◌∙◌, ◌++◌, ◌∷◌, ◌<◌, List, [], ap, get_or, length, subst, sym, take}
use Rattle.std.specs.BTreeMap.{get}
use Rattle.std.specs.Ordering.{nat_cmp}
use Rattle.std.proofs.lemmas.List.{take_more}
use Rattle.control_flow.specs.declared.places.Place.{Place}
use Rattle.explain_reports.specs.FirstStarts.{AreFirstStarts}
use Rattle.explain_reports.proofs.first_starts.first_starts.Goals as goal

pub loop-place-preserved : goal.loop-place-preserved
loop-place-preserved c =
    let h = c.args.handler.now in
    let places = h.graph.places in
    let k = c.loop-place.place-index in
    let place = c.place-item.result in
    let lt = subst (λ (ps : List Place). k < length ps) c.places-place-items.ensures.value c.loop-place-test.true in
    let own = c.place-item.is ∙ ap (λ (ps : List Place). get_or ps k place) c.places-place-items.ensures.value in
    subst (λ (ps : List Place). AreFirstStarts h.graph h.statement.loops ps (get nat_cmp c.put_first.new.first))
    (sym (take_more places k place lt ∙ ap (λ (p : Place). take k places ++ p ∷ []) (sym own)))
    (c.in_ok-put_first.ensures.added (take k places) c.loop-place.invariant)
