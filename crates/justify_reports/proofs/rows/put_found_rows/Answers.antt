use Rattle.std.proofs.Common.{◌≡◌, ◌∷◌, [], ℕ, List}
use Rattle.std.specs.Prelude.{unwrap_or}
use Rattle.std.specs.BTreeMap.{get}
use Rattle.std.specs.Ordering.{nat_cmp}
use Rattle.justify_reports.specs.Rows.{return_row}
use Rattle.justify_reports.specs.declared.returns.Going.TheVariants.{Unseen}
use Rattle.justify_reports.specs.declared.rows.Row.{Row}
use Rattle.text_rows.proofs.RowLaws.{so_far_all, so_far_one}
use Rattle.justify_reports.proofs.rows.put_found_rows.Goals as goal

pub loop-at-preserved : goal.loop-at-preserved
loop-at-preserved c =
    so_far_one (λ (a : ℕ) (part : List Row). part ≡ return_row (unwrap_or (get nat_cmp c.args.found.now a) Unseen) a ∷ []) c.args.named.now c.loop-at.at-index _ c.args.rows.now.items c.loop-at.rows.items
    c.put_return_row.new.rows.items c.loop-at.invariant c.loop-at-test.true c.in_ok-put_return_row.ensures

pub returns : goal.returns
returns c =
    so_far_all (λ (a : ℕ) (part : List Row). part ≡ return_row (unwrap_or (get nat_cmp c.args.found.now a) Unseen) a ∷ []) c.args.named.now c.loop-at.at-index c.args.rows.now.items c.loop-at.rows.items
    c.loop-at.invariant c.loop-at-test.false
