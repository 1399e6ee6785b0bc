use Rattle.std.proofs.Common.{◌≡◌, ℕ, true, take}
use Rattle.std.specs.Prelude.{◌↔◌}
use Rattle.std.specs.BTreeSet.{contains}
use Rattle.std.specs.Ordering.{nat_cmp}
use Rattle.text_explained.specs.Assumed.{Assumes}
use Rattle.text_explained.specs.Taken.{is_reached}
use Rattle.text_explained.proofs.assumptions.assumed.Given as goal

abbrev pub invariant-loop-place : goal.invariant-loop-place
invariant-loop-place l =
    (a : ℕ) → (contains nat_cmp l.named a ≡ true)
    ↔ ((is_reached (take l.place-index l.place-items) a ≡ true) × Assumes l.handler.image.now l.handler.statement l.handler.graph l.what a)
