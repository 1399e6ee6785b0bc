use Rattle.std.proofs.Common.{◌≡◌, ◌<◌, ℕ, get_or}
use Rattle.control_flow.specs.declared.edges.Edge.{Edge}
use Rattle.text_refusals.proofs.search.cycle_of.Given as goal

abbrev pub invariant-loop-k : goal.invariant-loop-k
invariant-loop-k l = (k : ℕ) (e : Edge) → k < l.k → get_or l.path k e ≡ e → e.from ≡ l.end → ⊥
