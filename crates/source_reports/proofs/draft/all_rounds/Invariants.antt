use Rattle.std.specs.Prelude.{None}
use Rattle.text_draft.specs.Draft.{HasFound}
use Rattle.source_reports.proofs.draft.all_rounds.Given as goal

abbrev pub invariant-loop : goal.invariant-loop
invariant-loop l = HasFound l.read.image None l.address l.rounds.found
