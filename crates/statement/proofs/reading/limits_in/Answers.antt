use Rattle.std.proofs.Common.{ap, ◌∙◌}
use Rattle.image.specs.Labels.{address_of}
use Rattle.toml_reading.specs.Documents.{tables_up_to}
use Rattle.toml_reading.specs.Readings.{pair, reading_map}
use Rattle.toml_reading.proofs.ReadingLemmas.{map_pair}
use Rattle.statement.specs.ReadingParts.{limits_of}
use Rattle.statement.specs.Statement.{branch_at, multiply_at}
use Rattle.statement.specs.StatementFaults.{statement_faults}
use Rattle.statement.proofs.reading.limits_in.Goals as goal

pub returns : goal.returns
returns c =
    let names = address_of c.args.labels.now in
    let multiplies = c.in_ok-multiplies.ensures ∙ ap (tables_up_to statement_faults 1024 (multiply_at names)) c.value_at.ensures in
    let branches = c.in_ok-branches.ensures ∙ ap (tables_up_to statement_faults 1024 (branch_at names)) c.value_at-2.ensures in
    ap (reading_map limits_of) c.pair.ensures
    ∙ map_pair statement_faults (λ v. v.items) (λ v. v.items) c.in_ok-multiplies.multiplies c.in_ok-branches.branches
    ∙ (λ i. pair statement_faults (multiplies i) (branches i))
