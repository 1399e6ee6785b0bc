use Rattle.std.proofs.Common.{◌≡◌, ◌<◌, ◌≤◌, List, get_or, length, subst, arith}
use Rattle.control_flow.specs.declared.places.Place.{Place}
use Rattle.text_refusals.specs.Entries.{AreRightlyEntered}
use Rattle.text_refusals.proofs.EntryLemmas.{none_entered, one_more}
use Rattle.text_refusals.proofs.mid_entries.mid_entry.Goals as goal

pub loop-header-preserved : goal.loop-header-preserved
loop-header-preserved c =
    let flow = c.args.graph.now in
    let same : c.places-header-items.result.now ≡ flow.places = c.places-header-items.ensures.value in
    let k = c.loop-header.header-index in
    let is = subst (λ (ps : List Place). c.header-item.result ≡ get_or ps k c.header-item.result) same c.header-item.is in
    one_more (AreRightlyEntered flow c.args.loops.now) flow.places k c.header-item.result (subst (λ (ps : List Place). k < length ps) same c.loop-header-test.true)
    (subst (AreRightlyEntered flow c.args.loops.now) is (c.in_default.ensures {u = tt}).none)
    c.loop-header.invariant

pub returns-clause-none : goal.returns-clause-none
returns-clause-none c =
    let flow = c.args.graph.now in
    let most = subst (λ (ps : List Place). length ps ≤ c.loop-header.header-index) c.places-header-items.ensures.value c.loop-header-test.false in
    none_entered flow c.args.loops.now (λ header has. c.loop-header.invariant has.0 header (omega (arith, has.1, most)) has.2)
