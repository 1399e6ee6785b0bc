use Rattle.std.proofs.Common.{◌≡◌, ◌≤◌, ◌<◌, ℕ, get_or}
use Rattle.control_flow.specs.declared.edges.Edge.{Edge}
use Rattle.loop_bounds.specs.Nest.{IsPlainEdge}
use Rattle.text_refusals.specs.Cycles.{EndsCleared}
use Rattle.text_refusals.proofs.search.next_of.Given as goal

abbrev pub invariant-loop-number : goal.invariant-loop-number
invariant-loop-number l = (k : ℕ) (e : Edge) → l.first ≤ k → k < l.number → get_or l.graph.edges k e ≡ e → IsPlainEdge l.graph l.loops e → EndsCleared l.graph l.loops l.marks e
