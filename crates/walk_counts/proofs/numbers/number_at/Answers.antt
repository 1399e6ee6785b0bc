use Rattle.std.proofs.Common.{◌≡◌, below_more, false, true}
use Rattle.control_flow.specs.Places.{place_at}
use Rattle.longest_walk.specs.Built.{step_at}
use Rattle.walk_counts.specs.Counts.{is_same_edge}
use Rattle.walk_counts.proofs.NumberLemmas.{fail_before, found_here, found_nowhere, tested}
use Rattle.walk_counts.proofs.numbers.number_at.Goals as goal

pub loop-number-init : goal.loop-number-init
loop-number-init c =
    fail_before c.args.graph.now (place_at c.args.graph.now.places c.args.place) c.edge_range-first.result.0 c.edge_range-first.result.1 c.edge_range-first.ensures.range c.args.edge.now c.requires.leaves

pub loop-number-preserved : goal.loop-number-preserved
loop-number-preserved c =
    let flow = c.args.graph.now in
    below_more (λ k. is_same_edge c.args.edge.now (step_at flow.edges k) ≡ false) _ c.loop-number.invariant
    (tested flow (place_at flow.places c.args.place) c.edge_range-first.result.0 c.edge_range-first.result.1 c.edge_range-first.ensures.range c.args.edge.now c.requires.leaves
    c.loop-number.number c.loop-number-test.true c.edges.result.now c.index-edges-number.result c.is_same_edge.result false c.edges.ensures.value c.index-edges-number.is c.is_same_edge.ensures c.if-is_same_edge.false)

pub returns-then-is_same_edge : goal.returns-then-is_same_edge
returns-then-is_same_edge c =
    let flow = c.args.graph.now in
    let place = place_at flow.places c.args.place in
    let range = c.edge_range-first.ensures.range in
    found_here flow place c.edge_range-first.result.0 c.edge_range-first.result.1 range c.args.edge.now c.requires.leaves c.loop-number.number c.loop-number-test.true c.loop-number.invariant
    (tested flow place c.edge_range-first.result.0 c.edge_range-first.result.1 range c.args.edge.now c.requires.leaves
    c.loop-number.number c.loop-number-test.true c.edges.result.now c.index-edges-number.result c.is_same_edge.result true c.edges.ensures.value c.index-edges-number.is c.is_same_edge.ensures c.if-is_same_edge.true)

pub returns : goal.returns
returns c =
    found_nowhere c.args.graph.now (place_at c.args.graph.now.places c.args.place) c.edge_range-first.result.0 c.edge_range-first.result.1 c.edge_range-first.ensures.range c.args.edge.now c.requires.leaves
    c.loop-number.number c.loop-number-test.false c.loop-number.invariant
