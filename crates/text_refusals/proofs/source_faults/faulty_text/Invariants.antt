use Rattle.std.proofs.Common.{[]}
use Rattle.text_refusals.specs.Texts.{IsFaultyRow}
use Rattle.text_rows.proofs.RowLaws.{SoFar}
use Rattle.text_refusals.proofs.source_faults.faulty_text.Given as goal

abbrev pub invariant-loop-line : goal.invariant-loop-line
invariant-loop-line l = SoFar (IsFaultyRow l.source) l.lines l.line-index [] l.out.items
