use Rattle.std.proofs.Common.{◌≡◌, ℕ}
use Rattle.std.specs.Prelude.{◌||◌, ◌&&◌, ◌==◌, nat_le, nat_lt}
use Rattle.std.specs.BTreeSet.{contains}
use Rattle.std.specs.Ordering.{nat_cmp}
use Rattle.text_explained.specs.PartSums.{in_group}
use Rattle.text_explained.proofs.SetLaws.{has}
use Rattle.text_explained.proofs.loop_table.note_loop.Given as goal

-- under what is left the loop has to be put
abbrev pub invariant-loop-cut : goal.invariant-loop-cut
invariant-loop-cut l =
    (at n : ℕ)
    → (in_group l.groups.by_key at n || (has l.cut-iterator at && n == l.number))
    ≡ (in_group l.initial.groups.by_key at n || ((contains nat_cmp l.cuts at && (nat_le l.fn.span.first at && nat_lt at l.fn.span.end)) && n == l.number))
