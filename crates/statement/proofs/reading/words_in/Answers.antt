use Rattle.std.proofs.Common.{ap, ◌∙◌}
use Rattle.image.specs.Labels.{address_of}
use Rattle.toml_reading.specs.Documents.{tables_up_to}
use Rattle.toml_reading.specs.Readings.{pair, reading_map}
use Rattle.toml_reading.proofs.ReadingLemmas.{map_pair}
use Rattle.statement.specs.ReadingParts.{words_of}
use Rattle.statement.specs.Statement.{access_at, target_at}
use Rattle.statement.specs.StatementFaults.{statement_faults}
use Rattle.statement.proofs.reading.words_in.Goals as goal

pub returns : goal.returns
returns c =
    let names = address_of c.args.labels.now in
    let targets = c.in_ok-targets.ensures ∙ ap (tables_up_to statement_faults 1024 (target_at names)) c.value_at.ensures in
    let accesses = c.in_ok-accesses.ensures ∙ ap (tables_up_to statement_faults 4096 (access_at names)) c.value_at-2.ensures in
    ap (reading_map words_of) c.pair.ensures
    ∙ map_pair statement_faults (λ v. v.items) (λ v. v.items) c.in_ok-targets.targets c.in_ok-accesses.accesses
    ∙ (λ i. pair statement_faults (targets i) (accesses i))
