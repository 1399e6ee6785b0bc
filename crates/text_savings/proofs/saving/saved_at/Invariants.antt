use Rattle.text_savings.specs.Carried.{times_in}
use Rattle.text_savings.specs.Savings.{IsWordSaved}
use Rattle.text_rows.proofs.RowLaws.{SoFar}
use Rattle.text_savings.proofs.saving.saved_at.Given as goal

abbrev pub invariant-loop-at : goal.invariant-loop-at
invariant-loop-at l = SoFar (IsWordSaved l.carried.statement.now l.carried.profile.now (times_in l.carried.times.now)) l.words l.at-index l.initial.found.items l.found.items
