use Rattle.std.proofs.Common.{◌∙◌, ◌+◌, arith, sum_by}
use Rattle.walk_counts.specs.Counts.{capped}
use Rattle.text_graph.specs.Stretches.{between, ticks}
use Rattle.text_graph.proofs.DrawLaws.{sum_end, sum_more}
use Rattle.text_graph.proofs.loops.loop_ticks.Goals as goal

pub loop-number-preserved : goal.loop-number-preserved
loop-number-preserved c =
    let f = ticks c.args.drawn.graph.now c.args.drawn.tree.now c.args.drawn.counts.now in
    let s = c.args.span.now in
    record {
      small = omega (arith, c.capped_sum-all.ensures);
      same =
          sum_more f c.loop-number.number (s.last + 1) c.loop-number.all c.ticks.result c.capped_sum-all.result
          (capped (sum_by f (between s.header (s.last + 1))))
          c.loop-number.invariant.same c.loop-number-test.true c.ticks.ensures c.capped_sum-all.ensures;
    }

pub returns : goal.returns
returns c =
    let f = ticks c.args.drawn.graph.now c.args.drawn.tree.now c.args.drawn.counts.now in
    let s = c.args.span.now in
    sum_end f c.loop-number.number (s.last + 1) c.loop-number.all (capped (sum_by f (between s.header (s.last + 1))))
    c.loop-number.invariant.same c.loop-number-test.false c.loop-number.invariant.small
