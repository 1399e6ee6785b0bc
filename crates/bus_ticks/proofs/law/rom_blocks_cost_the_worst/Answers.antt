use Rattle.bus_ticks.proofs.WorstLemmas.{rom_load, rom_store}
use Rattle.bus_ticks.proofs.law.rom_blocks_cost_the_worst.Goals as goal

pub returns-clause-load : goal.returns-clause-load
returns-clause-load c = rom_load

pub returns-clause-store : goal.returns-clause-store
returns-clause-store c = rom_store
