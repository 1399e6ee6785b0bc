use Rattle.std.proofs.Common.{◌≡◌, ℕ, take}
use Rattle.std.specs.BTreeMap.{get}
use Rattle.std.specs.Ordering.{nat_cmp}
use Rattle.text_page.specs.Noted.{bound_at}
use Rattle.text_page.proofs.notes.bounds_of.Given as goal

abbrev pub invariant-loop-stated : goal.invariant-loop-stated
invariant-loop-stated l = (at : ℕ) → get nat_cmp l.bounds at ≡ bound_at (take l.stated-index l.loops) at
