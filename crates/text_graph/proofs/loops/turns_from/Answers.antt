use Rattle.std.proofs.Common.{◌∙◌, arith, sum_by}
use Rattle.walk_counts.specs.Counts.{capped}
use Rattle.text_graph.specs.Clusters.{back_count}
use Rattle.text_graph.specs.Parts.{scene_of}
use Rattle.text_graph.specs.Stretches.{between}
use Rattle.text_graph.proofs.DrawLaws.{sum_end, sum_more}
use Rattle.text_graph.proofs.loops.turns_from.Goals as goal

pub loop-edge-preserved : goal.loop-edge-preserved
loop-edge-preserved c =
    let f = back_count (scene_of c.args.drawn) c.args.span.now in
    record {
      small = omega (arith, c.capped_sum-turns.ensures);
      same =
          sum_more f c.loop-edge.edge c.edge_range_in-first.result.1 c.loop-edge.turns c.back_count.result c.capped_sum-turns.result
          (capped (sum_by f (between c.edge_range_in-first.result.0 c.edge_range_in-first.result.1)))
          c.loop-edge.invariant.same c.loop-edge-test.true c.back_count.ensures c.capped_sum-turns.ensures;
    }

pub returns : goal.returns
returns c =
    let f = back_count (scene_of c.args.drawn) c.args.span.now in
    sum_end f c.loop-edge.edge c.edge_range_in-first.result.1 c.loop-edge.turns (capped (sum_by f (between c.edge_range_in-first.result.0 c.edge_range_in-first.result.1)))
    c.loop-edge.invariant.same c.loop-edge-test.false c.loop-edge.invariant.small
    ∙ (λ i. capped (sum_by f (between (c.edge_range_in-first.ensures.first i) (c.edge_range_in-first.ensures.end i))))
