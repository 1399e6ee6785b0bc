use Rattle.std.proofs.Common.{◌≡◌, ℕ, ◌<◌, get_or}
use Rattle.control_flow.specs.declared.edges.Edge.{Edge}
use Rattle.control_flow.proofs.faulty.edge_to.Given as goal

abbrev pub invariant-loop-edge : goal.invariant-loop-edge
invariant-loop-edge l = (k : ℕ) (d : Edge) → k < l.edge-index → (get_or l.edges k d).to ≡ l.place → ⊥
