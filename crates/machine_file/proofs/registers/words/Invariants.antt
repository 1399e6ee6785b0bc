use Rattle.std.proofs.Common.{◌≡◌, map, take}
use Rattle.toml.specs.View.{table_view}
use Rattle.toml_reading.specs.Readings.{all, items_in}
use Rattle.machine_file.specs.MachineFaults.{machine_faults}
use Rattle.machine_file.specs.Words.{word_or}
use Rattle.machine_file.proofs.registers.words.Given as goal

abbrev pub invariant-loop-name : goal.invariant-loop-name
invariant-loop-name l = items_in l.list ≡ all machine_faults (map (λ name. word_or machine_faults name.now 0 (table_view l.table)) (take l.name-index l.names))
