use Rattle.std.proofs.Common.{◌≡◌, ℕ, take}
use Rattle.std.specs.Prelude.{◌||◌}
use Rattle.std.specs.BTreeSet.{contains}
use Rattle.std.specs.List.{list_any}
use Rattle.std.specs.Ordering.{nat_cmp}
use Rattle.text_explained.specs.PartSums.{in_group}
use Rattle.text_explained.proofs.routines.Routines.add_called.Given as goal

abbrev pub invariant-loop-call : goal.invariant-loop-call
invariant-loop-call l =
    (n : ℕ)
    → contains nat_cmp l.parts n ≡ (contains nat_cmp l.initial.parts n || list_any (λ call. in_group l.self.called_by.by_key call n) (take l.call-index l.calls))
