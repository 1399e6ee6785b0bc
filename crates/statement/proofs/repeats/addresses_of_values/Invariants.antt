use Rattle.std.proofs.Common.{◌≡◌, map, take}
use Rattle.toml.specs.View.{view}
use Rattle.image.specs.Labels.{address_of}
use Rattle.statement.specs.PlaceTests.{address_of_value}
use Rattle.statement.proofs.repeats.addresses_of_values.Given as goal

abbrev pub invariant-loop-value : goal.invariant-loop-value
invariant-loop-value l =
    l.addresses.items ≡ map (λ v. address_of_value (address_of l.labels) (view v)) (take l.value-index l.values)
