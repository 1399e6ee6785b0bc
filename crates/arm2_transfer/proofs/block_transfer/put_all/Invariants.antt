use Rattle.std.proofs.Common.{◌≡◌, drop}
use Rattle.arm2_transfer.specs.Block.{put_all}
use Rattle.arm2_transfer.proofs.block_transfer.put_all.Given as goal

abbrev pub invariant-loop-one : goal.invariant-loop-one
invariant-loop-one l = record {
  rest : put_all l.mode l.registers (drop l.one-index l.moves) l.bus ≡ put_all l.mode l.registers l.moves l.fn.bus;
  kept : l.bus.memc.shift ≡ l.fn.bus.memc.shift;
}
