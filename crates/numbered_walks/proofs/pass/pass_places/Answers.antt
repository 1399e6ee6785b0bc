use Rattle.std.proofs.Common.{◌≡◌, arith, subst}
use Rattle.numbered_walks.specs.Tables.{IsPassed}
use Rattle.numbered_walks.proofs.pass.pass_places.Goals as goal

pub returns-clause-yes : goal.returns-clause-yes
returns-clause-yes c = λ closed passed _.
    let ended : c.loop-place.place ≡ c.args.end = omega (arith, c.loop-place-test.false, c.loop-place.auto.place-end) in
    subst (λ n. IsPassed c.args.graph.edges.now c.args.graph.spans.now closed n c.loop-place.tables) ended (c.loop-place.invariant.0 closed passed)
