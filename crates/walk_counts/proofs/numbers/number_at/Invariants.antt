use Rattle.std.proofs.Common.{◌≡◌, ℕ, ◌<◌, false}
use Rattle.longest_walk.specs.Built.{step_at}
use Rattle.walk_counts.specs.Counts.{is_same_edge}
use Rattle.walk_counts.proofs.numbers.number_at.Given as goal

abbrev pub invariant-loop-number : goal.invariant-loop-number
invariant-loop-number l = (k : ℕ) → k < l.number → is_same_edge l.edge (step_at l.graph.edges k) ≡ false
