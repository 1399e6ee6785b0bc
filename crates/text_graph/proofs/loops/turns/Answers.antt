use Rattle.std.proofs.Common.{◌∙◌, ◌+◌, arith, sum_by}
use Rattle.walk_counts.specs.Counts.{capped}
use Rattle.text_graph.specs.Clusters.{turns_from}
use Rattle.text_graph.specs.Parts.{scene_of}
use Rattle.text_graph.specs.Stretches.{between}
use Rattle.text_graph.proofs.DrawLaws.{sum_end, sum_more}
use Rattle.text_graph.proofs.loops.turns.Goals as goal

pub loop-number-preserved : goal.loop-number-preserved
loop-number-preserved c =
    let f = turns_from (scene_of c.args.drawn) c.args.span.now in
    let s = c.args.span.now in
    record {
      small = omega (arith, c.capped_sum-turns.ensures);
      same =
          sum_more f c.loop-number.number (s.last + 1) c.loop-number.turns c.turns_from.result c.capped_sum-turns.result
          (capped (sum_by f (between s.header (s.last + 1))))
          c.loop-number.invariant.same c.loop-number-test.true c.turns_from.ensures c.capped_sum-turns.ensures;
    }

pub returns : goal.returns
returns c =
    let f = turns_from (scene_of c.args.drawn) c.args.span.now in
    let s = c.args.span.now in
    sum_end f c.loop-number.number (s.last + 1) c.loop-number.turns (capped (sum_by f (between s.header (s.last + 1))))
    c.loop-number.invariant.same c.loop-number-test.false c.loop-number.invariant.small
