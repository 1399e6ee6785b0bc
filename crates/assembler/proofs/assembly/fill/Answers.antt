use Rattle.std.proofs.Common.{arith}
use Rattle.image.specs.Labels.{address_of}
use Rattle.assembler.proofs.SweepLaws.{filled_end, filled_step}
use Rattle.assembler.proofs.assembly.fill.Goals as goal

pub loop-item-preserved : goal.loop-item-preserved
loop-item-preserved c =
    filled_step (address_of c.args.labels.now) c.loop-item.image c.put.new.image c.args.items.now c.loop-item.item-index c.item-item.result _
    (omega (arith, c.loop-item-test.true)) c.item-item.is c.in_ok-put.ensures.ok c.loop-item.invariant

pub returns-clause-ok : goal.returns-clause-ok
returns-clause-ok c =
    filled_end (address_of c.args.labels.now) c.loop-item.image c.args.items.now c.loop-item.item-index _ (omega arith) c.loop-item.invariant
