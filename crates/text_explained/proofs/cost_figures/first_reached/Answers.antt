use Rattle.std.proofs.Common.{◌∙◌, ◌-◌, ◌+◌, ap, arith}
use Rattle.std.specs.BTreeMap.{get}
use Rattle.std.specs.Ordering.{nat_cmp}
use Rattle.std.specs.Prelude.{find}
use Rattle.assembler.specs.Assembles.{addresses_from}
use Rattle.std.specs.Prelude.{is_some}
use Rattle.text_explained.proofs.TableLaws.{found_end, found_here, found_more}
use Rattle.text_explained.proofs.cost_figures.first_reached.Goals as goal

pub loop-preserved : goal.loop-preserved
loop-preserved c = record {
  room = omega (arith, c.loop-test.true, c.loop.invariant.room);
  same =
      found_more (λ a. is_some (get nat_cmp c.args.tally.now.by_address a)) c.loop.at (c.args.count - c.loop.counter) (c.args.count - (c.loop.counter + 1)) c.is_some.result
      (find (λ a. is_some (get nat_cmp c.args.tally.now.by_address a)) (addresses_from c.args.from c.args.count)) (omega (arith, c.loop-test.true)) c.loop.invariant.same
      (c.is_some.ensures ∙ ap is_some c.at.ensures) c.if-is_some.false;
}

pub returns-then-is_some : goal.returns-then-is_some
returns-then-is_some c =
    found_here (λ a. is_some (get nat_cmp c.args.tally.now.by_address a)) c.loop.at (c.args.count - c.loop.counter) (c.args.count - (c.loop.counter + 1)) c.is_some.result
    (find (λ a. is_some (get nat_cmp c.args.tally.now.by_address a)) (addresses_from c.args.from c.args.count)) (omega (arith, c.loop-test.true)) c.loop.invariant.same
    (c.is_some.ensures ∙ ap is_some c.at.ensures) c.if-is_some.true

pub returns : goal.returns
returns c =
    found_end (λ a. is_some (get nat_cmp c.args.tally.now.by_address a)) c.loop.at (c.args.count - c.loop.counter) (find (λ a. is_some (get nat_cmp c.args.tally.now.by_address a)) (addresses_from c.args.from c.args.count))
    (omega (arith, c.loop-test.false)) c.loop.invariant.same
