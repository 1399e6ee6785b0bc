use Rattle.std.proofs.Common.{◌-◌, ◌+◌, arith}
use Rattle.std.specs.BTreeMap.{get}
use Rattle.std.specs.Ordering.{nat_cmp}
use Rattle.std.specs.Prelude.{find}
use Rattle.assembler.specs.Assembles.{addresses_from}
use Rattle.text_explained.specs.Table.{is_passed}
use Rattle.text_explained.proofs.TableLaws.{found_end, found_here, found_more}
use Rattle.text_explained.proofs.cost_figures.first_passed.Goals as goal

pub loop-preserved : goal.loop-preserved
loop-preserved c = record {
  room = omega (arith, c.loop-test.true, c.loop.invariant.room);
  same =
      found_more (is_passed (get nat_cmp c.args.tally.now.by_address)) c.loop.at (c.args.count - c.loop.counter) (c.args.count - (c.loop.counter + 1)) c.is_passed.result
      (find (is_passed (get nat_cmp c.args.tally.now.by_address)) (addresses_from c.args.from c.args.count)) (omega (arith, c.loop-test.true)) c.loop.invariant.same
      c.is_passed.ensures c.if-is_passed.false;
}

pub returns-then-is_passed : goal.returns-then-is_passed
returns-then-is_passed c =
    found_here (is_passed (get nat_cmp c.args.tally.now.by_address)) c.loop.at (c.args.count - c.loop.counter) (c.args.count - (c.loop.counter + 1)) c.is_passed.result
    (find (is_passed (get nat_cmp c.args.tally.now.by_address)) (addresses_from c.args.from c.args.count)) (omega (arith, c.loop-test.true)) c.loop.invariant.same
    c.is_passed.ensures c.if-is_passed.true

pub returns : goal.returns
returns c =
    found_end (is_passed (get nat_cmp c.args.tally.now.by_address)) c.loop.at (c.args.count - c.loop.counter) (find (is_passed (get nat_cmp c.args.tally.now.by_address)) (addresses_from c.args.from c.args.count))
    (omega (arith, c.loop-test.false)) c.loop.invariant.same
