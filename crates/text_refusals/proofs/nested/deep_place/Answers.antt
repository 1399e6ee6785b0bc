use Rattle.std.proofs.Common.{◌≡◌, ◌≤◌, ◌<◌, ◌∙◌, ℕ, List, length, get_or, refl, sym, ap, subst, ⊎_elim, arith}
use Rattle.std.specs.Prelude.{Contains}
use Rattle.std.specs.Vec.{with_items}
use Rattle.std.specs.List.Sorted.{IsNonDecreasingBy, IsPermutation}
use Rattle.std.proofs.lemmas.Bool.{cases_lt}
use Rattle.std.proofs.lemmas.List.{get_or_default}
use Rattle.std.proofs.lemmas.List.Elements.{Contains-get_or}
use Rattle.control_flow.specs.declared.places.Place.{Place}
use Rattle.loop_bounds.specs.declared.loop_instances.LoopInstance.{LoopInstance}
use Rattle.loop_bounds.specs.Extents.{found_instance}
use Rattle.statement.specs.declared.apart.ApartStretch.{ApartStretch}
use Rattle.text_refusals.specs.Nested.{others}
use Rattle.text_refusals.proofs.NestedLemmas.{is_deep, not_deep, written_back}
use Rattle.text_refusals.proofs.nested.deep_place.Goals as goal

pub returns-then-len-gt-MOST_INSTANCES-clause-deep : goal.returns-then-len-gt-MOST_INSTANCES-clause-deep
returns-then-len-gt-MOST_INSTANCES-clause-deep c =
    let flow = c.args.graph.now in
    let k = c.loop-place.place-index in
    let p = c.place-item.result in
    let same = c.places-place-items.ensures.value in
    let is = subst (λ (ps : List Place). p ≡ get_or ps k p) same c.place-item.is in
    let lt = subst (λ (ps : List Place). k < length ps) same c.loop-place-test.true in
    let has = subst (Contains flow.places) (sym is) (Contains-get_or flow.places k p lt) in
    let found = c.in_ok-instances.instances.items in
    let many : 16 < length found = omega (arith, c.len.ensures, c.if-len-gt-MOST_INSTANCES.true, c.in_ok-instances.instances.ok.0) in
    let moved : IsPermutation found c.put_in_order.new.found = subst (λ (fs : List LoopInstance). IsPermutation fs c.put_in_order.new.found) c.deref_mut.ensures.value c.put_in_order.ensures.moved in
    is_deep flow c.args.loops.now p found c.put_in_order.new.found (record { place = p; instances = with_items c.in_ok-instances.instances c.put_in_order.new.found }) refl
    (written_back c.put_in_order.new.found found c.in_ok-instances.instances.len (omega (arith, c.in_ok-instances.instances.ok.0, c.put_in_order.auto.found, ap (λ (fs : List LoopInstance). length fs) c.deref_mut.ensures.value)))
    has many moved (omega (arith, c.put_in_order.auto.found, ap (λ (fs : List LoopInstance). length fs) c.deref_mut.ensures.value)) c.in_ok-instances.ensures
    (subst (λ (a : List ApartStretch). IsNonDecreasingBy (λ f. others flow (found_instance a f)) c.put_in_order.new.found) c.apart.ensures c.put_in_order.ensures.ordered)

pub loop-place-preserved : goal.loop-place-preserved
loop-place-preserved c k p lt is deep same =
    let flow = c.args.graph.now in
    let i = c.loop-place.place-index in
    let q = c.place-item.result in
    let few : length c.in_ok-instances.instances.items ≤ 16 = omega (arith, c.len.ensures, c.if-len-gt-MOST_INSTANCES.false, c.in_ok-instances.instances.ok.0) in
    ⊎_elim
    (λ (before : k < i). c.loop-place.invariant k p before is deep same)
    (λ (here : i ≤ k).
    let at : k ≡ i = omega (arith, here, lt) in
    let items = c.places-place-items.ensures.value in
    let inside : i < length flow.places = subst (λ (ps : List Place). i < length ps) items c.loop-place-test.true in
    let q_is : q ≡ get_or flow.places i q = subst (λ (ps : List Place). q ≡ get_or ps i q) items c.place-item.is in
    let p_is : p ≡ q = sym is ∙ ap (λ (j : ℕ). get_or flow.places j p) at ∙ get_or_default flow.places i p q inside ∙ sym q_is in
    not_deep flow c.args.loops.now q c.in_ok-instances.instances.items few c.in_ok-instances.ensures deep (same ∙ p_is))
    (cases_lt k i)

pub returns-clause-none : goal.returns-clause-none
returns-clause-none c = λ deep.
    let flow = c.args.graph.now in
    let most = subst (λ (ps : List Place). length ps ≤ c.loop-place.place-index) c.places-place-items.ensures.value c.loop-place-test.false in
    c.loop-place.invariant deep.has.0 deep.place (omega (arith, deep.has.1, most)) deep.has.2 deep refl
