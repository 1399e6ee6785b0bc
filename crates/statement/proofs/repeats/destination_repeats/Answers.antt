use Rattle.std.proofs.Common.{◌≡◌, ap, map, subst, ◌∙◌}
use Rattle.std.specs.Prelude.{IfOk}
use Rattle.toml.specs.View.{view}
use Rattle.image.specs.Labels.{address_of}
use Rattle.statement.specs.PlaceTests.{address_of_value, destinations_of, repeats}
use Rattle.statement.proofs.RepeatLemmas.{map_twice}
use Rattle.statement.proofs.repeats.destination_repeats.Goals as goal

pub returns : goal.returns
returns c =
    let of_value = address_of_value (address_of c.args.labels.now) in
    subst
    (λ numbers. IfOk c.repeats.result (λ tests. tests.items ≡ repeats numbers))
    (
    c.deref.ensures.value
    ∙ c.in_ok-addresses.ensures
    ∙ map_twice of_value view c.destinations_of.result.now
    ∙ ap (map of_value) (c.destinations_of.ensures ∙ ap destinations_of c.as_table.ensures)
    )
    c.repeats.ensures
