use Rattle.std.proofs.Common.{◌≡◌, subst, ◌∙◌}
use Rattle.std.specs.Prelude.{IfOk}
use Rattle.toml.specs.View.{view}
use Rattle.image.specs.Labels.{address_of}
use Rattle.statement.specs.PlaceTests.{address_of_entry, repeats}
use Rattle.statement.proofs.RepeatLemmas.{map_twice}
use Rattle.statement.proofs.repeats.entry_repeats.Goals as goal

pub returns : goal.returns
returns c =
    subst
    (λ numbers. IfOk c.repeats.result (λ tests. tests.items ≡ repeats numbers))
    (c.deref.ensures.value ∙ c.in_ok-addresses.ensures ∙ map_twice (address_of_entry (address_of c.args.labels.now)) view c.args.entries.now)
    c.repeats.ensures
