use Rattle.std.proofs.Common.{◌≡◌, map, take}
use Rattle.toml.specs.View.{view}
use Rattle.image.specs.Labels.{address_of}
use Rattle.statement.specs.PlaceTests.{stretch_of_entry}
use Rattle.statement.proofs.repeats.stretches_of_entries.Given as goal

abbrev pub invariant-loop-entry : goal.invariant-loop-entry
invariant-loop-entry l =
    l.stretches.items ≡ map (λ e. stretch_of_entry (address_of l.labels) (view e)) (take l.entry-index l.entries)
