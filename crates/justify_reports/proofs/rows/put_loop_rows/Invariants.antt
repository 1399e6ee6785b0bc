use Rattle.std.proofs.Common.{◌≡◌, ◌∷◌, [], List}
use Rattle.statement.specs.declared.stated.Loop.{Loop}
use Rattle.justify_reports.specs.Rows.{IsLoopRow}
use Rattle.justify_reports.specs.declared.rows.Row.{Row}
use Rattle.text_rows.proofs.RowLaws.{SoFar}
use Rattle.justify_reports.proofs.rows.put_loop_rows.Given as goal

abbrev pub invariant-loop-stated : goal.invariant-loop-stated
invariant-loop-stated l =
    SoFar (λ (s : Loop) (part : List Row). (row : Row) × IsLoopRow l.handler.tree l.left.trusted.now l.left.endless.now s row × (part ≡ row ∷ [])) l.loops l.stated-index l.initial.rows.items l.rows.items
