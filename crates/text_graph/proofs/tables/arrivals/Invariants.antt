use Rattle.std.proofs.Common.{◌≡◌, ◌≤◌, ◌+◌, ℕ, get_or, length, take, eqb}
use Rattle.std.specs.Prelude.{count_by}
use Rattle.text_graph.proofs.tables.arrivals.Given as goal

abbrev pub invariant-loop-edge : goal.invariant-loop-edge
invariant-loop-edge l = record {
  whole : length l.counted.items ≡ length l.graph.places + 1;
  each : (n : ℕ) → n ≤ length l.graph.places → get_or l.counted.items n 0 ≡ count_by (λ e. eqb e.to n) (take l.edge-index l.tree.edges);
}
