use Rattle.std.proofs.Common.{◌≡◌, subst, ◌∙◌}
use Rattle.std.specs.Prelude.{IfOk}
use Rattle.toml.specs.View.{view}
use Rattle.image.specs.Labels.{address_of}
use Rattle.statement.specs.PlaceTests.{meetings, stretch_of_entry}
use Rattle.statement.proofs.RepeatLemmas.{map_twice}
use Rattle.statement.proofs.repeats.rule_meetings.Goals as goal

pub returns : goal.returns
returns c =
    subst
    (λ stretches. IfOk c.meetings.result (λ tests. tests.items ≡ meetings stretches))
    (c.deref.ensures.value ∙ c.in_ok-stretches.ensures ∙ map_twice (stretch_of_entry (address_of c.args.labels.now)) view c.args.entries.now)
    c.meetings.ensures
