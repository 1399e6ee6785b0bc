use Rattle.std.proofs.Common.{refl, arith}
use Rattle.numbered_walks.specs.Index.{span_at}
use Rattle.numbered_walks.proofs.PassLemmas.{later_last, span_in}
use Rattle.numbered_walks.proofs.pass.pass.Goals as goal

pub overflow_add-end : goal.overflow_add-end
overflow_add-end c = omega (arith, (c.requires.graph.ordered.shape (span_at c.args.graph.spans.now c.loop-closed.closed) (span_in c.args.graph.spans.now c.loop-closed.closed c.loop-closed-test.true)).1, c.requires.small)

pub pass_places-requires-clause-known : goal.pass_places-requires-clause-known
pass_places-requires-clause-known c =
    let shape = c.requires.graph.ordered.shape (span_at c.args.graph.spans.now c.loop-closed.closed) (span_in c.args.graph.spans.now c.loop-closed.closed c.loop-closed-test.true) in
    (c.loop-closed.invariant.3 c.loop-closed.closed (omega arith) c.loop-closed-test.true, omega (arith, shape.1))

pub loop-closed-preserved : goal.loop-closed-preserved
loop-closed-preserved c =
    let shape = c.requires.graph.ordered.shape (span_at c.args.graph.spans.now c.loop-closed.closed) (span_in c.args.graph.spans.now c.loop-closed.closed c.loop-closed-test.true) in
    (c.if-not-pass_round.ensures.yes refl, c.pass_round.ensures.room, omega (arith, shape.1), λ n later inside. later_last c.args.graph.exit c.args.graph.edges.now c.args.graph.spans.now c.loop-closed.closed n c.requires.graph.ordered (omega arith) inside)
