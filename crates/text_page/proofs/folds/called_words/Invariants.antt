use Rattle.std.proofs.Common.{◌≡◌, ℕ, take}
use Rattle.std.specs.BTreeSet.{contains}
use Rattle.std.specs.Ordering.{nat_cmp}
use Rattle.text_explained.specs.Sums.{is_called}
use Rattle.text_page.proofs.folds.called_words.Given as goal

abbrev pub invariant-loop-edge : goal.invariant-loop-edge
invariant-loop-edge l = (at : ℕ) → contains nat_cmp l.called at ≡ is_called (take l.edge-index l.edge-items) at
