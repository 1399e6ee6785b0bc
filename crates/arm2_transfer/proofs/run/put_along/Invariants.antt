use Rattle.std.proofs.Common.{◌≡◌, ◌^◌, ◌<◌}
use Rattle.arm2_decode.specs.Transfers.{registers_in}
use Rattle.arm2_transfer.specs.Words.{AreFitted, moves_along}
use Rattle.arm2_transfer.specs.Block.{put_all}
use Rattle.arm2_transfer.proofs.run.put_along.Given as goal

abbrev pub invariant-loop-left : goal.invariant-loop-left
invariant-loop-left l = record {
  list : l.left < 2 ^ 16;
  fitted : AreFitted l.bus.memc.shift l.next l.left;
  rest : put_all l.mode l.registers (moves_along l.next (registers_in l.left)) l.bus ≡ put_all l.mode l.registers (moves_along l.place (registers_in l.list)) l.fn.bus;
}

abbrev pub decreases-loop-left : goal.decreases-loop-left
decreases-loop-left l = l.left
