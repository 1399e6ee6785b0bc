use Rattle.std.proofs.Common.{◌≡◌, ◌<◌, ℕ, List, IfSome, get_or}
use Rattle.control_flow.specs.declared.places.Place.{Place}
use Rattle.control_flow.specs.declared.places.Place.TheVariants.{At}
use Rattle.loop_bounds.specs.Nest.{HasCrossingWith}
use Rattle.loop_bounds.proofs.crossing.have_crossing.Given as goal

abbrev pub invariant-loop-place : goal.invariant-loop-place
invariant-loop-place l = record {
  apart : (k : ℕ) (d : Place) (list : List ℕ) (address : ℕ) → k < l.place-index → get_or l.place-items k d ≡ At list address → HasCrossingWith l.graph l.loops list → ⊥;
  seen : IfSome l.previous (λ list. HasCrossingWith l.graph l.loops list → ⊥);
}
