-- The rows of a table that cost most.
use Rattle.std.specs.Prelude.{◌≡◌, ℕ, ◌||◌, Bool, List, take, Option, Some, None, is_some}
use Rattle.std.specs.List.Sorted.{IsPermutation, IsSortedByKey, IsStableByKey}
use Rattle.std.specs.Ordering.{nat_cmp}
use Rattle.std.specs.declared.cmp.Ordering.{Ordering}
use Rattle.text_explained.specs.Table.{ticks_of}
use Rattle.text_explained.specs.declared.table.RowForm.{RowForm}
use Rattle.text_explained.specs.declared.table_rows.TableRow.{TableRow}

abbrev pub ticks_at : TableRow → ℕ
ticks_at r = ticks_of r.figures.taken

-- the greater number first
abbrev pub falling : ℕ → ℕ → Ordering
falling m n = nat_cmp n m

-- so many of them, those with most ticks first, and of equals as they come
pub record AreDearest (most : ℕ) (rows dearest : List TableRow) : Type 0 where
  pub sorted : List TableRow
  pub same : IsPermutation rows sorted
  pub ordered : IsSortedByKey ticks_at falling sorted
  pub stable : IsStableByKey ticks_at falling rows sorted
  pub front : dearest ≡ take most sorted

-- these, if a number is asked for; and else all, as they come
abbrev pub AreChosen : (top : Option ℕ) → (rows chosen : List TableRow) → Type 0
AreChosen None rows chosen = chosen ≡ rows
AreChosen (Some most) rows chosen = AreDearest most rows chosen

-- rows that are asked for one by one are not folded
abbrev pub is_unfolded : RowForm → Bool
is_unfolded form = form.all || is_some form.top
