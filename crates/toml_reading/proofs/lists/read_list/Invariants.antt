use Rattle.std.proofs.Common.{◌≡◌, map, take}
use Rattle.toml.specs.View.{view}
use Rattle.toml_reading.specs.Readings.{all, items_in}
use Rattle.toml_reading.proofs.lists.read_list.Given as goal

abbrev pub invariant-loop-value : goal.invariant-loop-value
invariant-loop-value g l = items_in l.list ≡ all g.F.Fault.faults (map (g.T.Entry.reads l.context) (map view (take l.value-index l.values)))
