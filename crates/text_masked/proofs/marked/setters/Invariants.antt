use Rattle.std.proofs.Common.{◌≡◌, true}
use Rattle.std.specs.BTreeSet.{contains}
use Rattle.std.specs.Ordering.{nat_cmp}
use Rattle.text_explained.specs.Taken.{is_at}
use Rattle.text_masked.specs.Shown.{SetsMask}
use Rattle.text_masked.proofs.NoteLemmas.{AreNoted}
use Rattle.text_masked.proofs.marked.setters.Given as goal

abbrev pub invariant-loop-edge : goal.invariant-loop-edge
invariant-loop-edge l =
    AreNoted (λ a e. (is_at a e.from ≡ true) × SetsMask l.image l.mask e) l.edge-items (contains nat_cmp l.named) l.edge-index
