use Rattle.std.proofs.Common.{◌≡◌, ap, map, subst, ◌∙◌}
use Rattle.std.specs.Prelude.{IfOk}
use Rattle.toml.specs.View.{table_view, view}
use Rattle.toml_reading.specs.Lowest.{entries_at, number_of_entry}
use Rattle.machine_file.specs.MachinePlaces.{list_key, number_list}
use Rattle.machine_file.specs.MachinePlaceTests.{repeats}
use Rattle.machine_file.proofs.RepeatLemmas.{map_twice}
use Rattle.machine_file.proofs.repeats.number_repeats.Goals as goal

pub returns : goal.returns
returns c =
    let ms = table_view c.args.table.now in
    let of_entry = number_of_entry c.number_key.result.now in
    subst
    (λ numbers. IfOk c.repeats.result (λ tests. tests.items ≡ repeats numbers))
    (
    c.deref.ensures.value
    ∙ c.in_ok-numbers.ensures
    ∙ map_twice of_entry view c.entries_at-entries.result.now
    ∙ ap (map of_entry)
    (c.entries_at-entries.ensures ∙ ap (λ key. entries_at key ms) (c.list_key.ensures ∙ ap list_key c.number_list.ensures))
    ∙ ap (λ key. map (number_of_entry key) (entries_at (list_key (number_list c.args.number)) ms)) c.number_key.ensures
    )
    c.repeats.ensures
