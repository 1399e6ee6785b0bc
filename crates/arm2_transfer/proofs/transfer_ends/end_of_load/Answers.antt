use Rattle.std.proofs.Common.{arith}
use Rattle.arm2_transfer.proofs.Ticks.{end_of_load-jumps, end_of_load-passes}
use Rattle.arm2_transfer.proofs.transfer_ends.end_of_load.Goals as goal
use Rattle.arm2_transfer.proofs.transfer_ends.end_of_load.Goals.{then-jumps, else-jumps}

pub returns-clause-ticks : goal.returns-clause-ticks
returns-clause-ticks c =
    let x = c.args.accesses in
    elim c.if-jumps.branch [
      | then-jumps w ↦ rw w.if-jumps.true (omega (arith, end_of_load-jumps c.args.prices.now x.from x.address x.words c.args.to, c.transfer-moved.ensures.price, c.straight.ensures.ticks, c.internal.ensures.ticks, w.refill-jump.ensures.ticks, w.jump-is))
      | else-jumps w ↦ rw w.if-jumps.false (omega (arith, end_of_load-passes c.args.prices.now x.from x.address x.words c.args.to, c.transfer-moved.ensures.price, c.straight.ensures.ticks, c.internal.ensures.ticks, w.jump-is))
    ]
