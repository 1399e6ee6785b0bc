use Rattle.std.proofs.Common.{◌≡◌, map, take}
use Rattle.toml.specs.View.{view}
use Rattle.image.specs.Labels.{address_of}
use Rattle.statement.specs.PlaceTests.{destination_repeats}
use Rattle.statement.proofs.repeats.all_destination_repeats.Given as goal

abbrev pub invariant-loop-target : goal.invariant-loop-target
invariant-loop-target l =
    map (λ v. v.items) l.tests.items
    ≡ map (λ t. destination_repeats (address_of l.labels) (view t)) (take l.target-index l.targets)
