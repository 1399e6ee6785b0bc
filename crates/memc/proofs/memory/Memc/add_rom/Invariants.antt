use Rattle.std.proofs.Common.{◌≡◌, drop}
use Rattle.memc.specs.Memory.{with_words}
use Rattle.memc.proofs.memory.Memc.add_rom.Given as goal

abbrev pub invariant-loop-address : goal.invariant-loop-address
invariant-loop-address l = with_words l.rom.entries (drop l.address-index l.words) ≡ with_words l.fn.self.rom l.words
