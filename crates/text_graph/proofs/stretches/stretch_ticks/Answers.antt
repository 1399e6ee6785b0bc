use Rattle.std.proofs.Common.{arith}
use Rattle.text_graph.specs.Stretches.{stretch_ticks, ticks}
use Rattle.text_graph.proofs.DrawLaws.{item_sum_end, item_sum_more}
use Rattle.text_graph.proofs.stretches.stretch_ticks.Goals as goal

pub loop-number-preserved : goal.loop-number-preserved
loop-number-preserved c =
    let d = c.args.drawn in
    let f = ticks d.graph.now d.tree.now d.counts.now in
    let numbers = c.args.numbers.now in
    record {
      small = omega (arith, c.capped_sum-all.ensures);
      same =
          item_sum_more f numbers c.loop-number.number-index 0 c.loop-number.all c.ticks.result c.capped_sum-all.result (stretch_ticks d.graph.now d.tree.now d.counts.now numbers)
          c.loop-number.invariant.same c.loop-number-test.true c.ticks.ensures c.capped_sum-all.ensures;
    }

pub returns : goal.returns
returns c =
    let d = c.args.drawn in
    let f = ticks d.graph.now d.tree.now d.counts.now in
    let numbers = c.args.numbers.now in
    item_sum_end f numbers c.loop-number.number-index c.loop-number.all (stretch_ticks d.graph.now d.tree.now d.counts.now numbers)
    c.loop-number.invariant.same c.loop-number-test.false c.loop-number.invariant.small
