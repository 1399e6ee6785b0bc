use Rattle.std.proofs.Common.{◌≡◌, ◌∷◌, [], ℕ, List}
use Rattle.std.specs.Prelude.{unwrap_or}
use Rattle.std.specs.BTreeMap.{get}
use Rattle.std.specs.Ordering.{nat_cmp}
use Rattle.justify_reports.specs.Rows.{return_row}
use Rattle.justify_reports.specs.declared.returns.Going.TheVariants.{Unseen}
use Rattle.justify_reports.specs.declared.rows.Row.{Row}
use Rattle.text_rows.proofs.RowLaws.{SoFar}
use Rattle.justify_reports.proofs.rows.put_found_rows.Given as goal

abbrev pub invariant-loop-at : goal.invariant-loop-at
invariant-loop-at l =
    SoFar (λ (a : ℕ) (part : List Row). part ≡ return_row (unwrap_or (get nat_cmp l.found a) Unseen) a ∷ []) l.named l.at-index l.initial.rows.items l.rows.items
