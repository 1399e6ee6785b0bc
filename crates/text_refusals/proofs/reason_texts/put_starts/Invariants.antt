use Rattle.text_refusals.specs.Texts.{IsStartRow}
use Rattle.text_rows.proofs.RowLaws.{SoFar}
use Rattle.text_refusals.proofs.reason_texts.put_starts.Given as goal

abbrev pub invariant-loop-edge : goal.invariant-loop-edge
invariant-loop-edge l = SoFar (IsStartRow l.words) l.cycle l.edge-index l.fn.out.items l.out.items
