use Rattle.text_explained.specs.Idle.{IsStretchRow}
use Rattle.text_rows.proofs.RowLaws.{SoFar}
use Rattle.text_explained.proofs.idle_stretches.put_stretches.Given as goal

abbrev pub invariant-loop-stretch : goal.invariant-loop-stretch
invariant-loop-stretch l = SoFar (IsStretchRow l.loops) l.stretches l.stretch-index l.initial.out.items l.out.items
