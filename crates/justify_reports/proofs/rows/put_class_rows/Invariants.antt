use Rattle.std.proofs.Common.{◌≡◌, ◌∷◌, [], ℕ, List}
use Rattle.justify_reports.specs.Rows.{IsClassRow}
use Rattle.justify_reports.specs.declared.rows.Row.{Row}
use Rattle.text_rows.proofs.RowLaws.{SoFar}
use Rattle.justify_reports.proofs.rows.put_class_rows.Given as goal

abbrev pub invariant-loop-at : goal.invariant-loop-at
invariant-loop-at l =
    SoFar (λ (a : ℕ) (part : List Row). (row : Row) × IsClassRow l.handler.image.now l.handler.statement l.handler.graph l.handler.tree l.left.trusted.now l.left.outside.now a row × (part ≡ row ∷ [])) l.named l.at-index l.initial.rows.items l.rows.items
