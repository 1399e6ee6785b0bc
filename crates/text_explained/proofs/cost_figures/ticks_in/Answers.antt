use Rattle.std.proofs.Common.{◌+◌, ◌-◌, arith}
use Rattle.std.specs.BTreeMap.{get}
use Rattle.std.specs.Ordering.{nat_cmp}
use Rattle.text_explained.specs.Table.{ticks_in, ticks_of}
use Rattle.text_explained.proofs.TableLaws.{ticks_end, ticks_more}
use Rattle.text_explained.proofs.cost_figures.ticks_in.Goals as goal

pub loop-preserved : goal.loop-preserved
loop-preserved c =
    let taken = get nat_cmp c.args.tally.now.by_address in
    record {
      small = omega (arith, c.capped_sum-ticks.ensures);
      room = omega (arith, c.loop-test.true, c.loop.invariant.room);
      same =
          ticks_more (λ a. ticks_of (taken a)) c.loop.at (c.args.count - c.loop.counter) (c.args.count - (c.loop.counter + 1)) c.loop.ticks
          c.ticks_of.result c.capped_sum-ticks.result (ticks_in taken c.args.from c.args.count) (omega (arith, c.loop-test.true)) c.loop.invariant.same
          c.ticks_of.ensures c.capped_sum-ticks.ensures;
    }

pub returns : goal.returns
returns c =
    let taken = get nat_cmp c.args.tally.now.by_address in
    ticks_end (λ a. ticks_of (taken a)) c.loop.at (c.args.count - c.loop.counter) c.loop.ticks (ticks_in taken c.args.from c.args.count)
    (omega (arith, c.loop-test.false)) c.loop.invariant.small c.loop.invariant.same
