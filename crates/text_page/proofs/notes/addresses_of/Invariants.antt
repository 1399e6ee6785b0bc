use Rattle.std.proofs.Common.{◌≡◌, ℕ, take}
use Rattle.std.specs.BTreeSet.{contains}
use Rattle.std.specs.Ordering.{nat_cmp}
use Rattle.text_page.specs.Noted.{has_row}
use Rattle.text_page.proofs.notes.addresses_of.Given as goal

abbrev pub invariant-loop-row : goal.invariant-loop-row
invariant-loop-row l = (at : ℕ) → contains nat_cmp l.found at ≡ has_row (take l.row-index l.rows) at
