use Rattle.std.proofs.Common.{◌≡◌, ℕ, ◌^◌, ◌<◌}
use Rattle.arm2_decode.specs.Transfers.{registers_in}
use Rattle.arm2_transfer.specs.Words.{AreFitted, moves_along}
use Rattle.arm2_transfer.specs.Block.{load_all}
use Rattle.arm2_transfer.proofs.run.load_along.Given as goal

abbrev pub invariant-loop-left : goal.invariant-loop-left
invariant-loop-left l = record {
  list : l.left < 2 ^ 16;
  fitted : AreFitted l.bus.memc.shift l.next l.left;
  rest : (port : ℕ) → load_all l.loading.psr l.loading.mode l.loading.r15 l.bus port (moves_along l.next (registers_in l.left)) l.registers ≡ load_all l.loading.psr l.loading.mode l.loading.r15 l.bus port (moves_along l.place (registers_in l.list)) l.fn.registers;
}

abbrev pub decreases-loop-left : goal.decreases-loop-left
decreases-loop-left l = l.left
