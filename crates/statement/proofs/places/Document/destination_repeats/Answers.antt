use Rattle.std.proofs.Common.{[], ap, option_map, sym, ◌∙◌}
use Rattle.std.specs.Prelude.{unwrap_or}
use Rattle.std.specs.Option.{option_copied}
use Rattle.std.specs.List.{slice_get}
use Rattle.toml.specs.View.{table_view}
use Rattle.image.specs.Labels.{address_of}
use Rattle.statement.proofs.RepeatLemmas.{row_is}
use Rattle.statement.proofs.places.Document.destination_repeats.Goals as goal

pub returns-in-Some : goal.returns-in-Some
returns-in-Some c =
    let d = c.args.self.now in
    c.deref-in-Some.ensures.value
    ∙ sym (ap (λ r. unwrap_or (option_map (λ v. v.items) (option_copied r)) []) c.in-Some.is)
    ∙ row_is (address_of d.labels.now) (table_view d.table.now) d.targets.items d.accesses.items d.rules.items d.multiplies.items d.branches.items d.destinations.items d.apart d.stored c.args.target (option_copied c.tests_at.result)
    (c.tests_at.ensures ∙ ap (λ rows. slice_get rows c.args.target) c.deref.ensures.value)

pub returns-in-None : goal.returns-in-None
returns-in-None c =
    let d = c.args.self.now in
    sym (ap (λ r. unwrap_or (option_map (λ v. v.items) (option_copied r)) []) c.in-None.is)
    ∙ row_is (address_of d.labels.now) (table_view d.table.now) d.targets.items d.accesses.items d.rules.items d.multiplies.items d.branches.items d.destinations.items d.apart d.stored c.args.target (option_copied c.tests_at.result)
    (c.tests_at.ensures ∙ ap (λ rows. slice_get rows c.args.target) c.deref.ensures.value)
