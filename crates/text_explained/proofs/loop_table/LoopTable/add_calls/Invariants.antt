use Rattle.std.proofs.Common.{◌≡◌, ℕ, take}
use Rattle.std.specs.Prelude.{◌||◌}
use Rattle.std.specs.BTreeSet.{contains}
use Rattle.std.specs.List.{list_any}
use Rattle.std.specs.Ordering.{nat_cmp}
use Rattle.statement.specs.Stated.{lies_within}
use Rattle.statement.specs.declared.stated.Loop.{Loop}
use Rattle.text_explained.specs.PartSums.{passes_at}
use Rattle.text_explained.proofs.loop_table.LoopTable.add_calls.Given as goal

abbrev pub invariant-loop-call : goal.invariant-loop-call
invariant-loop-call l =
    (n : ℕ)
    → contains nat_cmp l.parts n
    ≡ (contains nat_cmp l.initial.parts n
    || list_any (λ call. passes_at l.self.loops.now (λ (x : Loop). lies_within l.self.apart.now x.first call x.last) n) (take l.call-index l.calls))
