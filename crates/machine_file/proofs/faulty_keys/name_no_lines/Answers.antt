use Rattle.std.proofs.Common.{ap, map, option_map, sym, ◌∙◌}
use Rattle.toml.specs.View.{view}
use Rattle.machine_file.specs.MachinePlaceTests.{are_no_lines, names_no_line}
use Rattle.machine_file.proofs.TestLemmas.{any_mapped}
use Rattle.machine_file.proofs.faulty_keys.name_no_lines.Goals as goal

pub returns-in-Some : goal.returns-in-Some
returns-in-Some c =
    c.one_names_no_line.ensures
    ∙ any_mapped names_no_line view c.in-Some.values.now
    ∙ ap are_no_lines (sym (ap (option_map (λ values. map view values.now)) c.in-Some.is) ∙ c.values_of.ensures)
