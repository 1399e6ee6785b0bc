use Rattle.std.proofs.Common.{◌≡◌, ℕ}
use Rattle.std.specs.Prelude.{◌||◌, ◌&&◌}
use Rattle.std.specs.BTreeSet.{contains}
use Rattle.std.specs.Ordering.{nat_cmp}
use Rattle.loop_bounds.specs.Instance.{is_back_edge_of}
use Rattle.statement.specs.declared.stated.Loop.{Loop}
use Rattle.text_explained.specs.PartSums.{passes_at}
use Rattle.text_explained.specs.Sums.{is_in_loop}
use Rattle.text_explained.proofs.SetLaws.{has}
use Rattle.text_explained.proofs.loop_table.LoopTableParts.begun_by.Given as goal

-- those that are left may be begun, too
abbrev pub invariant-loop-number : goal.invariant-loop-number
invariant-loop-number l =
    (n : ℕ)
    → (contains nat_cmp l.begun n || (has l.number-iterator n && passes_at l.self.loops.now (λ (x : Loop). is_back_edge_of l.self.apart.now x l.edge) n))
    ≡ (passes_at l.self.loops.now (λ (x : Loop). is_in_loop l.self.apart.now x l.edge.from) n && passes_at l.self.loops.now (λ (x : Loop). is_back_edge_of l.self.apart.now x l.edge) n)
