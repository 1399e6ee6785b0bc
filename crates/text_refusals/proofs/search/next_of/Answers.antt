use Rattle.std.proofs.Common.{arith}
use Rattle.control_flow.specs.declared.edges.Edge.{Edge}
use Rattle.control_flow.specs.Places.{place_at}
use Rattle.loop_bounds.specs.Nest.{IsPlainEdge}
use Rattle.text_refusals.specs.Cycles.{EndsCleared}
use Rattle.text_refusals.proofs.SearchLemmas.{whole_place}
use Rattle.text_refusals.proofs.search.next_of.Goals as goal

pub returns-clause-none : goal.returns-clause-none
returns-clause-none c =
    let flow = c.args.graph.now in
    let loops = c.args.loops.now in
    λ edge is from.
    whole_place flow loops (place_at flow.places c.args.at) c.edge_range-first.result.0 c.edge_range-first.result.1 c.edge_range-first.ensures.range
    (λ (e : Edge). IsPlainEdge flow loops e → EndsCleared flow loops c.args.marks.now e)
    (λ k e low high at. c.loop-number.invariant k e low (omega (arith, high, c.loop-number-test.false)) at)
    edge is.has from is
