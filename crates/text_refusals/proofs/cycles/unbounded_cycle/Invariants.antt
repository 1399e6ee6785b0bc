use Rattle.std.proofs.Common.{◌≡◌, ◌<◌, ℕ, get_or}
use Rattle.control_flow.specs.declared.places.Place.{Place}
use Rattle.text_refusals.specs.Cycles.{IsCleared, IsIdle}
use Rattle.text_refusals.proofs.cycles.unbounded_cycle.Given as goal

abbrev pub invariant-loop-root : goal.invariant-loop-root
invariant-loop-root l = record {
  idle : IsIdle l.graph l.loops l.search;
  cleared : (k : ℕ) (p : Place) → k < l.root-index → get_or l.graph.places k p ≡ p → IsCleared l.graph l.loops p;
}
