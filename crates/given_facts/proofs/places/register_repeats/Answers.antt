use Rattle.std.proofs.Common.{◌≡◌, ap, map, subst, ◌∙◌}
use Rattle.std.specs.Prelude.{IfOk}
use Rattle.toml.specs.View.{view}
use Rattle.machine_file.specs.MachinePlaceTests.{repeats}
use Rattle.given_facts.proofs.RepeatLemmas.{map_twice}
use Rattle.given_facts.specs.GivenPlaces.{number_in}
use Rattle.given_facts.proofs.places.register_repeats.Goals as goal

pub returns : goal.returns
returns c =
    subst
    (λ numbers. IfOk c.repeats.result (λ tests. tests.items ≡ repeats numbers))
    (
    c.deref.ensures.value
    ∙ c.in_ok-numbers.ensures
    ∙ map_twice number_in view c.entries.result.now
    ∙ ap (map number_in) c.entries.ensures
    )
    c.repeats.ensures
