use Rattle.text_refusals.specs.Rows.{IsRow}
use Rattle.text_rows.proofs.RowLaws.{SoFar}
use Rattle.text_refusals.proofs.reason_texts.put_rows.Given as goal

abbrev pub invariant-loop-at : goal.invariant-loop-at
invariant-loop-at l = SoFar (IsRow l.words) l.named l.at-index l.fn.out.items l.out.items
