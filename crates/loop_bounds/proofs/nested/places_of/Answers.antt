use Rattle.std.proofs.Common.{◌∙◌, arith}
use Rattle.loop_bounds.proofs.NestedPlaces.{places_more}
use Rattle.loop_bounds.proofs.nested.places_of.Goals as goal

pub loop-number-preserved : goal.loop-number-preserved
loop-number-preserved c =
    let below = c.loop-number.auto.number in
    c.in_ok-push.ensures.items
    ∙ places_more c.args.places.now c.args.order.now c.loop-number.members.items c.args.span.now.header c.loop-number.number c.index-places-order.result below (omega (arith, c.requires.whole, c.requires.span.1, c.loop-number-test.true)) (c.requires.inside c.loop-number.number (omega (arith, c.requires.span.1, c.loop-number-test.true))) c.index-places-order.is c.loop-number.invariant
