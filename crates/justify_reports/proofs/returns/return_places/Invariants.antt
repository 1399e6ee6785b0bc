use Rattle.std.proofs.Common.{◌≡◌, ℕ, true, take}
use Rattle.std.specs.Prelude.{◌↔◌}
use Rattle.std.specs.BTreeSet.{contains}
use Rattle.std.specs.Ordering.{nat_cmp}
use Rattle.text_explained.specs.Taken.{is_reached}
use Rattle.justify_reports.specs.Returns.{HasReturn}
use Rattle.justify_reports.proofs.returns.return_places.Given as goal

abbrev pub invariant-loop-place : goal.invariant-loop-place
invariant-loop-place l =
    (a : ℕ) → (contains nat_cmp l.named a ≡ true)
    ↔ ((is_reached (take l.place-index l.place-items) a ≡ true) × HasReturn l.handler.image.now l.handler.statement a)
