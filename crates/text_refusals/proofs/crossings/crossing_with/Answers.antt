use Rattle.std.proofs.Common.{◌≤◌, ◌∙◌, List, get_or, length, subst, sym, arith}
use Rattle.std.proofs.lemmas.Bool.{true≢false}
use Rattle.std.proofs.lemmas.List.Elements.{Contains-get_or}
use Rattle.std.specs.Prelude.{Contains}
use Rattle.statement.specs.declared.apart.ApartStretch.{ApartStretch}
use Rattle.statement.specs.declared.stated.Loop.{Loop}
use Rattle.control_flow.specs.declared.places.Place.TheVariants.{At}
use Rattle.loop_bounds.specs.declared.loop_instances.LoopInstance.{LoopInstance}
use Rattle.loop_bounds.specs.Extents.{found_instance}
use Rattle.loop_bounds.specs.Instance.{instance_of}
use Rattle.text_refusals.specs.Crossings.{DoNotCross, ShowsCrossing}
use Rattle.text_refusals.proofs.CrossingLemmas.{crossed, instance_at}
use Rattle.text_refusals.proofs.EntryLemmas.{one_more_of}
use Rattle.text_refusals.proofs.crossings.crossing_with.Goals as goal
use Rattle.text_refusals.proofs.crossings.crossing_with.Goals.{then-has_place+in_default, else-has_place}

pub returns-in-Some-clause-crossing : goal.returns-in-Some-clause-crossing
returns-in-Some-clause-crossing c =
    let none : Loop = record { header = 0; first = 0; last = 0; bound = 0 } in
    let flow = c.args.graph.now in
    let loops = c.args.loops.now in
    let one = c.args.one.now in
    let list = c.list-stated-items.result.now in
    let l : Loop = get_or list c.loop-stated.stated-index none in
    let stated : Contains loops.list l = subst (λ (ls : List Loop). Contains ls l) c.list-stated-items.ensures.value (Contains-get_or list c.loop-stated.stated-index none c.loop-stated-test.true) in
    let other : LoopInstance = record { list = one.list; stated = l } in
    crossed flow loops one other _ c.requires (instance_at flow loops l one.list stated (c.has_place.ensures.0 c.if-has_place.true))
    (subst (λ (a : List ApartStretch). ShowsCrossing flow a one other c.in-Some.crossing) c.apart.ensures (c.in-Some.ensures {u = tt}).shows)

pub loop-stated-preserved : goal.loop-stated-preserved
loop-stated-preserved c =
    let none : Loop = record { header = 0; first = 0; last = 0; bound = 0 } in
    let flow = c.args.graph.now in
    let loops = c.args.loops.now in
    let one = c.args.one.now in
    let list = c.list-stated-items.result.now in
    let k = c.loop-stated.stated-index in
    let P : Loop → Type 0 =
    λ s. Contains flow.places (At one.list s.header) → DoNotCross flow (found_instance loops.apart one) (instance_of loops.apart s one.list) in
    elim c.if-has_place.branch [
      | then-has_place+in_default w ↦ one_more_of P list loops.list k none c.list-stated-items.ensures.value c.loop-stated-test.true
          (λ there. subst (λ (a : List ApartStretch). DoNotCross flow (found_instance a one) (instance_of a (get_or list k none) one.list)) w.apart.ensures w.in_default.ensures.none)
          c.loop-stated.invariant
      | else-has_place w ↦ one_more_of P list loops.list k none c.list-stated-items.ensures.value c.loop-stated-test.true
          (λ there. absurd (true≢false (sym (c.has_place.ensures.1 there) ∙ w.if-has_place.false)))
          c.loop-stated.invariant
    ]

pub returns-clause-none : goal.returns-clause-none
returns-clause-none c =
    let most = subst (λ (ls : List Loop). length ls ≤ c.loop-stated.stated-index) c.list-stated-items.ensures.value c.loop-stated-test.false in
    λ l has there. c.loop-stated.invariant has.0 l (omega (arith, has.1, most)) has.2 there
