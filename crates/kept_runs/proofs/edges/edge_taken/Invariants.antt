use Rattle.std.proofs.Common.{◌≡◌, ℕ, ◌<◌}
use Rattle.control_flow.specs.Places.{place_at}
use Rattle.longest_walk.specs.Built.{step_at}
use Rattle.kept_runs.specs.Edges.{IsMet}
use Rattle.kept_runs.proofs.edges.edge_taken.Given as goal

abbrev pub invariant-loop-edge : goal.invariant-loop-edge
invariant-loop-edge l = (k : ℕ) → k < l.edge → (step_at l.graph.edges k).from ≡ place_at l.graph.places l.place → IsMet l.going (step_at l.graph.edges k) → ⊥
