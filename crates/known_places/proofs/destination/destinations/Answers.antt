use Rattle.std.proofs.Common.{◌∙◌, arith, length, subst}
use Rattle.std.specs.Prelude.{IfSome}
use Rattle.known_places.specs.Destinations.{destination_at}
use Rattle.known_places.specs.Table.{HoldsAlong}
use Rattle.known_places.proofs.ArriveLemmas.{gone_to}
use Rattle.known_places.proofs.destination.destinations.Goals as goal

pub returns-clause-whole : goal.returns-clause-whole
returns-clause-whole c =
    let h = c.args.handler.now in
    let holds =
    subst (λ o. IfSome o (λ a. HoldsAlong h.image.now h.graph h.tree c.args.given.now a.items c.args.table.now)) c.in-Some.is
    c.in_ok-around.ensures in
    let whole = holds.whole in
    c.in_ok-found.ensures.whole ∙ whole

pub returns-clause-each : goal.returns-clause-each
returns-clause-each c = λ number low.
    let h = c.args.handler.now in
    let holds =
    subst (λ o. IfSome o (λ a. HoldsAlong h.image.now h.graph h.tree c.args.given.now a.items c.args.table.now)) c.in-Some.is
    c.in_ok-around.ensures in
    let whole = holds.whole in
    gone_to h.image.now h.statement h.graph h.tree c.graphs_are_well_formed.ensures c.requires.tree.tree_is c.args.given.now
    c.in-Some.around.items c.args.table.now holds number low (destination_at c.in_ok-found.found.items number)
    (c.in_ok-found.ensures.each number (omega (arith, low, whole)))
