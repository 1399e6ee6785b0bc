use Rattle.std.specs.Prelude.{Some}
use Rattle.text_draft.specs.Draft.{HasFound}
use Rattle.source_reports.proofs.begun.all_rounds_on.Given as goal

abbrev pub invariant-loop : goal.invariant-loop
invariant-loop l = HasFound l.read.image (Some l.statement) l.statement.entry l.rounds.found
