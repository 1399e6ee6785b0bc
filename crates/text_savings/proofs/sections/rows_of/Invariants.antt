use Rattle.text_savings.specs.Sections.{IsSavingRow}
use Rattle.text_rows.proofs.RowLaws.{SoFar}
use Rattle.text_savings.proofs.sections.rows_of.Given as goal

abbrev pub invariant-loop-saving : goal.invariant-loop-saving
invariant-loop-saving g l = SoFar (IsSavingRow (g.E.RowEnds.is_end l.ends)) l.list l.saving-index l.initial.out.items l.out.items
