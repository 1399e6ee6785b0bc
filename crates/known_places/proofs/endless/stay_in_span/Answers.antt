use Rattle.std.proofs.Common.{arith, below_more}
use Rattle.known_places.proofs.EndlessLemmas.{all_of_range}
use Rattle.known_places.proofs.endless.stay_in_span.Goals as goal

pub loop-number-init : goal.loop-number-init
loop-number-init c = λ k high low. absurd (omega (arith, low, high))

pub loop-number-preserved : goal.loop-number-preserved
loop-number-preserved c =
    below_more _ _ c.loop-number.invariant (λ low. c.stays_in_span.ensures c.if-not-stays_in_span.false)

pub returns : goal.returns
returns c = λ seen.
    let h = c.args.handler.now in
    let table = c.args.table.now in
    let range = c.edge_range_in-first in
    all_of_range h.image.now h.graph h.tree table.around.now table.known.now c.args.span.now c.requires.tree c.args.place range.result.0 range.result.1
    range.ensures.range (λ k high low. c.loop-number.invariant k (omega (arith, high, c.loop-number-test.false)) low)
