use Rattle.std.proofs.Common.{ap, arith, length}
use Rattle.known_places.proofs.EndlessLemmas.{below_all, below_last, closed_up_to, one_more_number}
use Rattle.known_places.proofs.endless.is_closed.Goals as goal

pub loop-place-init : goal.loop-place-init
loop-place-init c = λ k lt low high. absurd (omega (arith, low, high))

pub loop-place-preserved : goal.loop-place-preserved
loop-place-preserved c =
    let h = c.args.handler.now in
    let table = c.args.table.now in
    one_more_number h.image.now h.graph h.tree table.around.now table.known.now c.args.span.now c.requires.tree c.loop-place.place c.loop-place.invariant
    (c.stay_in_span.ensures c.if-not-stay_in_span.false)

pub returns-then-span-place : goal.returns-then-span-place
returns-then-span-place c = λ seen.
    let h = c.args.handler.now in
    let table = c.args.table.now in
    closed_up_to h.image.now h.graph h.tree table.around.now table.known.now c.args.span.now c.requires.tree c.loop-place.place c.loop-place.invariant
    (below_last h.image.now h.graph h.tree table.around.now table.known.now c.args.span.now c.requires.tree c.loop-place.place c.if-span-place.true)

pub returns : goal.returns
returns c = λ seen.
    let h = c.args.handler.now in
    let table = c.args.table.now in
    let there = ap length c.places-place-end.ensures.value in
    closed_up_to h.image.now h.graph h.tree table.around.now table.known.now c.args.span.now c.requires.tree c.loop-place.place c.loop-place.invariant
    (below_all h.image.now h.graph h.tree table.around.now table.known.now c.args.span.now c.requires.tree c.loop-place.place
    (omega (arith, c.loop-place-test.false, there)))
