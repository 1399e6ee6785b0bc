use Rattle.std.proofs.Common.{◌≡◌, ◌<◌, length, get_or, subst, sym, ◌∙◌, arith}
use Rattle.std.proofs.lemmas.List.{get_or_default}
use Rattle.control_flow.specs.Places.{place_at}
use Rattle.control_flow.specs.declared.places.Place.TheVariants.{Exit}
use Rattle.loop_bounds.specs.Layout.{AreIndexes}
use Rattle.loop_bounds.proofs.Positions.{listed_from, listed_length}
use Rattle.loop_bounds.proofs.LayoutLemmas.{indexes_more, placed}
use Rattle.loop_bounds.proofs.layout.indexes.Goals as goal

pub bounds-listed-position : goal.bounds-listed-position
bounds-listed-position c = omega (arith, c.requires.inside c.loop-n.n c.loop-n-test.true, listed_length c.args.places.now c.args.listed.now c.requires.listed)

pub index_near-requires-clause-known : goal.index_near-requires-clause-known
index_near-requires-clause-known c =
    listed_from c.args.places.now c.args.listed.now c.requires.listed c.index-listed-position.result
    (get_or c.args.order.now c.loop-n.n 0, omega (arith, c.requires.inside c.loop-n.n c.loop-n-test.true, listed_length c.args.places.now c.args.listed.now c.requires.listed), sym c.index-listed-position.is)

pub loop-n-preserved : goal.loop-n-preserved
loop-n-preserved c =
    let lt : get_or c.args.order.now c.loop-n.n 0 < length c.args.listed.now = omega (arith, c.requires.inside c.loop-n.n c.loop-n-test.true, listed_length c.args.places.now c.args.listed.now c.requires.listed) in
    let is : place_at c.args.places.now c.index_near.result ≡ place_at c.args.listed.now (get_or c.args.order.now c.loop-n.n 0) =
    c.index_near.ensures.number ∙ c.index-listed-position.is ∙ get_or_default c.args.listed.now (get_or c.args.order.now c.loop-n.n 0) c.index-listed-position.result Exit lt in
    rw c.in_ok-push.ensures.items
    (indexes_more c.args.places.now c.args.listed.now c.args.order.now c.loop-n.indexes.items c.loop-n.n c.index_near.result c.loop-n.invariant c.index_near.ensures.inside is)

pub returns : goal.returns
returns c =
    let ended : c.loop-n.n ≡ length c.args.places.now = omega arith in
    rw c.in_ok-push-2.ensures.items (placed c.args.places.now c.args.listed.now c.args.order.now c.loop-n.indexes.items (subst (AreIndexes c.args.places.now c.args.listed.now c.args.order.now c.loop-n.indexes.items) ended c.loop-n.invariant))
