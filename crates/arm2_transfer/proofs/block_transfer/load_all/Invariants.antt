use Rattle.std.proofs.Common.{◌≡◌, drop}
use Rattle.arm2_transfer.specs.Block.{load_all}
use Rattle.arm2_transfer.proofs.block_transfer.load_all.Given as goal

abbrev pub invariant-loop-one : goal.invariant-loop-one
invariant-loop-one l = load_all l.loading.psr l.loading.mode l.loading.r15 l.bus l.port (drop l.one-index l.moves) l.registers ≡ load_all l.loading.psr l.loading.mode l.loading.r15 l.bus l.port l.moves l.fn.registers
