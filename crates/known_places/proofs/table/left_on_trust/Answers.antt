use Rattle.std.proofs.Common.{arith, length, subst, sym}
use Rattle.std.specs.Prelude.{IfSome}
use Rattle.known_places.specs.Table.{HoldsAlong}
use Rattle.known_places.proofs.table.left_on_trust.Goals as goal
use Rattle.known_places.proofs.RunLemmas.{justified}

pub returns : goal.returns
returns c =
    let h = c.args.handler.now in
    let table = c.args.table.now in
    let given = c.args.given.now in
    let around = c.deref.result.now in
    let found =
    subst (λ o. IfSome o (λ a. HoldsAlong h.image.now h.graph h.tree given a.items table)) c.in-Some.is c.in_ok-around.ensures in
    let holds = subst (λ a. HoldsAlong h.image.now h.graph h.tree given a table) (sym c.deref.ensures.value) found in
    let whole = holds.whole in
    justified h.image.now h.statement h.graph h.tree c.graphs_are_well_formed.ensures c.requires.tree given around table
    (record { classes = c.in_ok-classes.classes.items; loops = c.in_ok-loops.loops.items })
    (record {
      table = holds;
      stays = λ number low. c.in_ok-classes.ensures number (omega (arith, low, whole));
      bounds = c.in_ok-loops.ensures;
    })
