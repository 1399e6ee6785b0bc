use Rattle.std.proofs.Common.{arith}
use Rattle.text_explained.specs.PartSums.{in_group}
use Rattle.text_explained.proofs.LoopTableLaws.{grouped_all, grouped_more}
use Rattle.text_explained.proofs.loop_table.grouped.Goals as goal

pub loop-number-preserved : goal.loop-number-preserved
loop-number-preserved c =
    grouped_more c.args.apart.now c.args.loops.now c.args.cuts.now c.loop-number.number _ c.loop-number-test.true c.span_of-span.result.first
    c.span_of-span.result.end c.span_of-span.ensures.first c.span_of-span.ensures.end (in_group c.loop-number.groups.by_key) (in_group c.note_loop.new.groups.by_key)
    c.loop-number.invariant c.in_ok-note_loop.ensures

pub returns : goal.returns
returns c =
    grouped_all c.args.apart.now c.args.loops.now c.args.cuts.now (in_group c.loop-number.groups.by_key) c.loop-number.number (omega (arith, c.loop-number-test.false))
    c.loop-number.invariant
