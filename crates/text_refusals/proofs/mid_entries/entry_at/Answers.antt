use Rattle.std.proofs.Common.{◌≡◌, ◌≤◌, ◌∙◌, ℕ, List, get_or, length, subst, sym, arith}
use Rattle.std.specs.Prelude.{Contains}
use Rattle.std.proofs.lemmas.List.Elements.{Contains-get_or}
use Rattle.statement.specs.declared.apart.ApartStretch.{ApartStretch}
use Rattle.statement.specs.declared.stated.Loop.{Loop}
use Rattle.control_flow.specs.declared.places.Place.TheVariants.{At}
use Rattle.control_flow.proofs.PlaceLemmas.{same_at}
use Rattle.loop_bounds.specs.Instance.{instance_of}
use Rattle.text_refusals.specs.Entries.{IsMidOf, IsRightlyEntered}
use Rattle.text_refusals.proofs.EntryLemmas.{mid_at, one_more_of}
use Rattle.text_refusals.proofs.mid_entries.entry_at.Goals as goal

pub returns-in-Some-clause-entry : goal.returns-in-Some-clause-entry
returns-in-Some-clause-entry c =
    let none : Loop = record { header = 0; first = 0; last = 0; bound = 0 } in
    let flow = c.args.graph.now in
    let loops = c.args.loops.now in
    let list = c.list-stated-items.result.now in
    let k = c.loop-stated.stated-index in
    let l : Loop = get_or list k none in
    let stated : Contains loops.list l = subst (λ (ls : List Loop). Contains ls l) c.list-stated-items.ensures.value (Contains-get_or list k none c.loop-stated-test.true) in
    mid_at flow loops c.requires.well_formed c.args.header.now c.requires.has c.in-At.list c.in-At.address c.in-At.is l
    stated c.if-stated-address.false c.in-Some.entry c.in-Some.ensures.instance
    (subst (λ (a : List ApartStretch). IsMidOf flow (instance_of a l c.in-At.list) c.in-Some.entry.place c.in-Some.entry.edge) c.apart.ensures c.in-Some.ensures.entry)

pub loop-stated-preserved-then-stated-address : goal.loop-stated-preserved-then-stated-address
loop-stated-preserved-then-stated-address c =
    let none : Loop = record { header = 0; first = 0; last = 0; bound = 0 } in
    let loops = c.args.loops.now in
    let list = c.list-stated-items.result.now in
    let k = c.loop-stated.stated-index in
    one_more_of (λ (x : Loop). (calls : List ℕ) → c.args.header.now ≡ At calls x.header → IsRightlyEntered c.args.graph.now (instance_of loops.apart x calls)) list loops.list k none
    c.list-stated-items.ensures.value c.loop-stated-test.true
    (λ calls at. absurd (c.if-stated-address.true (same_at calls c.in-At.list (get_or list k none).header c.in-At.address (sym at ∙ c.in-At.is)).1))
    c.loop-stated.invariant

pub loop-stated-preserved : goal.loop-stated-preserved
loop-stated-preserved c =
    let none : Loop = record { header = 0; first = 0; last = 0; bound = 0 } in
    let loops = c.args.loops.now in
    let list = c.list-stated-items.result.now in
    let k = c.loop-stated.stated-index in
    let s = get_or list k none in
    one_more_of (λ (x : Loop). (calls : List ℕ) → c.args.header.now ≡ At calls x.header → IsRightlyEntered c.args.graph.now (instance_of loops.apart x calls)) list loops.list k none
    c.list-stated-items.ensures.value c.loop-stated-test.true
    (λ calls at.
    let same : c.in-At.list ≡ calls = sym (same_at calls c.in-At.list s.header c.in-At.address (sym at ∙ c.in-At.is)).0 in
    subst (λ (a : List ApartStretch). IsRightlyEntered c.args.graph.now (instance_of a s calls)) c.apart.ensures
    (subst (λ (ls : List ℕ). IsRightlyEntered c.args.graph.now (instance_of c.apart.result.now s ls)) same (c.in_default-entry_of.ensures {u = tt}).none))
    c.loop-stated.invariant

pub returns-clause-none : goal.returns-clause-none
returns-clause-none c =
    let most = subst (λ (ls : List Loop). length ls ≤ c.loop-stated.stated-index) c.list-stated-items.ensures.value c.loop-stated-test.false in
    λ l list has at. c.loop-stated.invariant has.0 l (omega (arith, has.1, most)) has.2 list at
