use Rattle.std.proofs.Common.{◌∙◌, ap, below_more, false, length}
use Rattle.loop_bounds.specs.Tree.{place_in}
use Rattle.cert_check.proofs.WalkNamed.{fail_before, found_here, found_nowhere, none_at_exit, tested_here}
use Rattle.cert_check.proofs.walk_trace.named_edge.Goals as goal

pub returns-then-number-places-clause-found : goal.returns-then-number-places-clause-found
returns-then-number-places-clause-found c = none_at_exit c.args.graph.now c.places.ensures.well_formed c.args.tree.now c.requires.tree c.args.number c.args.line.now (c.if-number-places.true ∙ ap length c.places.ensures.value)

pub loop-edge-init : goal.loop-edge-init
loop-edge-init c = fail_before c.args.graph.now (place_in c.args.graph.now c.args.tree.now c.args.number) c.args.line.now c.edge_range_in-first.result.0 c.edge_range_in-first.result.1 c.edge_range_in-first.ensures.range

pub returns-then-is_named-clause-found : goal.returns-then-is_named-clause-found
returns-then-is_named-clause-found c =
    found_here c.args.graph.now (place_in c.args.graph.now c.args.tree.now c.args.number) c.args.line.now c.edge_range_in-first.result.0 c.edge_range_in-first.result.1 c.edge_range_in-first.ensures.range
    c.loop-edge.edge c.loop-edge.auto.edge c.loop-edge-test.true c.index-edges-edge.result c.is_named.result c.edges.result.now c.edges.ensures.value c.index-edges-edge.is c.is_named.ensures c.loop-edge.invariant c.if-is_named.true

pub loop-edge-preserved : goal.loop-edge-preserved
loop-edge-preserved c = below_more _ _ c.loop-edge.invariant
    (tested_here c.args.graph.now (place_in c.args.graph.now c.args.tree.now c.args.number) c.args.line.now c.edge_range_in-first.result.0 c.edge_range_in-first.result.1 c.edge_range_in-first.ensures.range
    c.loop-edge.edge c.loop-edge.auto.edge c.loop-edge-test.true c.index-edges-edge.result c.is_named.result c.edges.result.now c.edges.ensures.value c.index-edges-edge.is c.is_named.ensures false c.if-is_named.false)

pub returns-clause-found : goal.returns-clause-found
returns-clause-found c =
    found_nowhere c.args.graph.now (place_in c.args.graph.now c.args.tree.now c.args.number) c.args.line.now c.edge_range_in-first.result.0 c.edge_range_in-first.result.1 c.edge_range_in-first.ensures.range
    c.loop-edge.edge c.loop-edge-test.false c.loop-edge.invariant
