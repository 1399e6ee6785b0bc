-- The memory controller's fields as plain maps.
use Rattle.memc.specs.declared.memory.Memc.TheInside.{Inside}
use Rattle.memc.specs.Memory.{Memory}

abbrev pub memory_in : Inside → Memory
memory_in m = record {
  shift = m.pages.shift;
  paged = m.pages.paged;
  control = m.control;
  rom = m.rom.entries;
}
