use Rattle.std.proofs.Common.{◌≡◌, ◌<◌, ℕ, get_or}
use Rattle.control_flow.specs.declared.places.Place.{Place}
use Rattle.loop_bounds.specs.Nest.{HasDeepPlace}
use Rattle.text_refusals.proofs.nested.deep_place.Given as goal

abbrev pub invariant-loop-place : goal.invariant-loop-place
invariant-loop-place l = (k : ℕ) (p : Place) → k < l.place-index → get_or l.graph.places k p ≡ p → (deep : HasDeepPlace l.graph l.loops) → deep.place ≡ p → ⊥
