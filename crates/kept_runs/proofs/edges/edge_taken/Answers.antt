use Rattle.control_flow.specs.Places.{place_at}
use Rattle.kept_runs.proofs.PlaceEdges.{found_here, found_nowhere, none_before, none_here}
use Rattle.kept_runs.proofs.edges.edge_taken.Goals as goal

pub loop-edge-init : goal.loop-edge-init
loop-edge-init c = none_before c.args.graph.now (place_at c.args.graph.now.places c.args.place) c.args.going c.edge_range-first.result.0 c.edge_range-first.result.1 c.edge_range-first.ensures.range

pub returns-then-is_met : goal.returns-then-is_met
returns-then-is_met c =
    found_here c.args.graph.now (place_at c.args.graph.now.places c.args.place) c.args.going c.edge_range-first.result.0 c.edge_range-first.result.1 c.edge_range-first.ensures.range
    c.loop-edge.edge c.loop-edge.auto.edge c.loop-edge-test.true c.index-edges-edge.result c.is_met.result c.edges.result.now c.edges.ensures.value c.index-edges-edge.is c.is_met.ensures c.if-is_met.true

pub loop-edge-preserved : goal.loop-edge-preserved
loop-edge-preserved c =
    none_here c.args.graph.now (place_at c.args.graph.now.places c.args.place) c.args.going c.edge_range-first.result.0 c.edge_range-first.result.1 c.edge_range-first.ensures.range
    c.loop-edge.edge c.loop-edge.auto.edge c.loop-edge-test.true c.index-edges-edge.result c.is_met.result c.edges.result.now c.edges.ensures.value c.index-edges-edge.is c.is_met.ensures c.loop-edge.invariant c.if-is_met.false

pub returns : goal.returns
returns c =
    found_nowhere c.args.graph.now (place_at c.args.graph.now.places c.args.place) c.args.going c.edge_range-first.result.0 c.edge_range-first.result.1 c.edge_range-first.ensures.range
    c.loop-edge.edge c.loop-edge-test.false c.loop-edge.invariant
