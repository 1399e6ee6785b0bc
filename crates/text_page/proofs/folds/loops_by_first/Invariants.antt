use Rattle.std.proofs.Common.{◌≡◌, ℕ, take}
use Rattle.std.specs.BTreeMap.{get}
use Rattle.std.specs.Ordering.{nat_cmp}
use Rattle.text_page.specs.Folds.{loop_from}
use Rattle.text_page.proofs.folds.loops_by_first.Given as goal

abbrev pub invariant-loop-stated : goal.invariant-loop-stated
invariant-loop-stated l = (at : ℕ) → get nat_cmp l.found at ≡ loop_from (take l.stated-index l.loops) at
