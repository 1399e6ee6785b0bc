use Rattle.std.proofs.Common.{arith, subst, sym}
use Rattle.std.specs.Prelude.{IfSome}
use Rattle.known_places.specs.Table.{HoldsAlong}
use Rattle.known_places.proofs.EndlessLemmas.{closed_is_endless}
use Rattle.known_places.proofs.endless.endless_loops.Goals as goal

pub returns : goal.returns
returns c = λ number instance low said.
    let h = c.args.handler.now in
    let table = c.args.table.now in
    let given = c.args.given.now in
    let around = c.deref.result.now in
    let found =
    subst (λ o. IfSome o (λ a. HoldsAlong h.image.now h.graph h.tree given a.items table)) c.in-Some.is c.in_ok-around.ensures in
    let holds = subst (λ a. HoldsAlong h.image.now h.graph h.tree given a table) (sym c.deref.ensures.value) found in
    let same = c.requires.tree.tree_is.spans_are.same in
    closed_is_endless h.image.now h.statement h.graph h.tree c.graphs_are_well_formed.ensures c.requires.tree given around table holds
    number instance low (c.in_ok-found.ensures number (omega (arith, low, same)) said)
