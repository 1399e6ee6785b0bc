use Rattle.text_refusals.proofs.PlacedLemmas.{fault_row}
use Rattle.text_refusals.proofs.PlainText.{is_of_text}
use Rattle.text_refusals.proofs.RowLemmas.{row_sound}
use Rattle.text_refusals.proofs.law.rows_show_faults.Goals as goal

pub returns-clause-spots : goal.returns-clause-spots
returns-clause-spots c = λ names ms fault has items tells row h.
    let s = row_sound has items row h in
    (s.0, (tells s.0).0 s.1, s.2)

pub returns-clause-rows : goal.returns-clause-rows
returns-clause-rows c = λ names ms fault has items tells are h. fault_row names ms fault has tells items are h

pub returns-clause-some : goal.returns-clause-some
returns-clause-some c = is_of_text
