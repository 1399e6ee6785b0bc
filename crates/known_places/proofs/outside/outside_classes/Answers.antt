use Rattle.std.proofs.Common.{arith, length, subst, sym}
use Rattle.std.specs.Prelude.{IfSome}
use Rattle.loop_bounds.specs.Tree.{place_in}
use Rattle.known_places.specs.Outside.{GoesOutside, PlaceGoesOutside, outside_at}
use Rattle.known_places.specs.Table.{HoldsAlong}
use Rattle.known_places.proofs.AroundLemmas.{some_as}
use Rattle.known_places.proofs.OutsideLemmas.{gone_outside}
use Rattle.known_places.proofs.outside.outside_classes.Goals as goal

pub returns : goal.returns
returns c = λ number low.
    let h = c.args.handler.now in
    let table = c.args.table.now in
    let given = c.args.given.now in
    let around = c.deref.result.now in
    let found =
    subst (λ o. IfSome o (λ a. HoldsAlong h.image.now h.graph h.tree given a.items table)) c.in-Some.is c.in_ok-around.ensures in
    let holds = subst (λ a. HoldsAlong h.image.now h.graph h.tree given a table) (sym c.deref.ensures.value) found in
    let whole = holds.whole in
    some_as (PlaceGoesOutside h.image.now h.statement h.graph h.tree around table number)
    (GoesOutside h.image.now h.statement h.graph given (place_in h.graph h.tree number)) (outside_at c.in_ok-found.found.items number)
    (λ range goes.
    gone_outside h.image.now h.statement h.graph h.tree c.graphs_are_well_formed.ensures c.requires.tree given around table holds number low range goes)
    (c.in_ok-found.ensures number (omega (arith, low, whole)))
