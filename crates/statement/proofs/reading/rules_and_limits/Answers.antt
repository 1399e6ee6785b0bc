use Rattle.std.proofs.Common.{ap, ◌∙◌}
use Rattle.image.specs.Labels.{address_of}
use Rattle.toml_reading.specs.Documents.{tables_up_to}
use Rattle.toml_reading.specs.Readings.{pair, reading_map}
use Rattle.toml_reading.proofs.ReadingLemmas.{map_pair}
use Rattle.statement.specs.ReadingParts.{limits_of, rules_of}
use Rattle.statement.specs.Statement.{rule_at}
use Rattle.statement.specs.StatementFaults.{statement_faults}
use Rattle.statement.proofs.reading.rules_and_limits.Goals as goal

pub returns : goal.returns
returns c =
    let rules = c.in_ok-rules.ensures ∙ ap (tables_up_to statement_faults 256 (rule_at (address_of c.args.labels.now))) c.value_at.ensures in
    ap (reading_map rules_of) c.pair.ensures
    ∙ map_pair statement_faults (λ v. v.items) limits_of c.in_ok-rules.rules c.in_ok-limits.limits
    ∙ (λ i. pair statement_faults (rules i) (c.in_ok-limits.ensures i))
