use Rattle.std.proofs.Common.{◌≡◌, map, take}
use Rattle.toml.specs.View.{view}
use Rattle.toml_reading.specs.Lowest.{number_of_entry}
use Rattle.machine_file.proofs.repeats.numbers_of.Given as goal

abbrev pub invariant-loop-entry : goal.invariant-loop-entry
invariant-loop-entry l = l.numbers.items ≡ map (λ e. number_of_entry l.key (view e)) (take l.entry-index l.entries)
