use Rattle.std.proofs.Common.{◌≡◌, ℕ}
use Rattle.std.specs.Prelude.{◌||◌}
use Rattle.std.specs.BTreeSet.{contains}
use Rattle.std.specs.Ordering.{nat_cmp}
use Rattle.text_explained.proofs.SetLaws.{has}
use Rattle.text_explained.proofs.part_groups.insert_all.Given as goal

-- what is left to put makes the whole
abbrev pub invariant-loop-number : goal.invariant-loop-number
invariant-loop-number l =
    (n : ℕ) → (contains nat_cmp l.parts n || has l.number-iterator n) ≡ (contains nat_cmp l.initial.parts n || contains nat_cmp l.more n)
