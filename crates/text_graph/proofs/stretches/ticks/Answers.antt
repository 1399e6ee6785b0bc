use Rattle.std.proofs.Common.{◌∙◌, arith, sum_by}
use Rattle.walk_counts.specs.Counts.{capped}
use Rattle.text_graph.specs.Stretches.{between, edge_ticks}
use Rattle.text_graph.proofs.DrawLaws.{sum_end, sum_more}
use Rattle.text_graph.proofs.stretches.ticks.Goals as goal

pub loop-edge-preserved : goal.loop-edge-preserved
loop-edge-preserved c =
    let d = c.args.drawn in
    let f = edge_ticks d.graph.now d.counts.now in
    record {
      small = omega (arith, c.capped_sum-ticks.ensures);
      same =
          sum_more f c.loop-edge.edge c.edge_range_in-first.result.1 c.loop-edge.ticks c.edge_ticks.result c.capped_sum-ticks.result
          (capped (sum_by f (between c.edge_range_in-first.result.0 c.edge_range_in-first.result.1)))
          c.loop-edge.invariant.same c.loop-edge-test.true c.edge_ticks.ensures c.capped_sum-ticks.ensures;
    }

pub returns : goal.returns
returns c =
    let d = c.args.drawn in
    let f = edge_ticks d.graph.now d.counts.now in
    sum_end f c.loop-edge.edge c.edge_range_in-first.result.1 c.loop-edge.ticks (capped (sum_by f (between c.edge_range_in-first.result.0 c.edge_range_in-first.result.1)))
    c.loop-edge.invariant.same c.loop-edge-test.false c.loop-edge.invariant.small
    ∙ (λ i. capped (sum_by f (between (c.edge_range_in-first.ensures.first i) (c.edge_range_in-first.ensures.end i))))
