use Rattle.std.proofs.Common.{ℕ, zero, suc, ◌+◌, ◌*◌, ◌%◌, ◌≤◌, ◌≡◌, Bool, arith}
use Rattle.bus_ticks.specs.declared.profile.Profile.{Profile}
use Rattle.bus_ticks.specs.declared.profile.RomTimes.{RomTimes}
use Rattle.bus_ticks.specs.declared.profile.Class.TheVariants.{Ram}
use Rattle.bus_ticks.specs.Dearest.{IsDearestBlock}
use Rattle.bus_ticks.proofs.WorstLemmas.{ram_block_at}
use Rattle.bus_ticks.proofs.dearest.dearest_ram_start.Goals as goal

from_12 : (profile : Profile) (base words : ℕ) → base % 16 ≡ 0 → 1 ≤ words
    → base + 12 + 4 * words ≤ 0x3000000 → (store : Bool) (rom : RomTimes)
    → IsDearestBlock profile Ram words store (record { address = base + 12; rom = rom })
from_12 profile base zero whole some room store rom = absurd (omega (arith, some))
from_12 profile base (suc k) whole some room store rom = ram_block_at profile base k store rom whole room

pub returns-clause-block : goal.returns-clause-block
returns-clause-block c = from_12
