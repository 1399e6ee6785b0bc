use Rattle.std.proofs.Common.{◌≡◌, ◌<◌, ℕ, List, get_or}
use Rattle.control_flow.specs.declared.places.Place.{Place}
use Rattle.control_flow.specs.declared.places.Place.TheVariants.{At}
use Rattle.text_refusals.specs.Crossings.{CrossNoneAt}
use Rattle.text_refusals.proofs.crossings.loops_that_cross.Given as goal

abbrev pub invariant-loop-place : goal.invariant-loop-place
invariant-loop-place l = (k : ℕ) (p : Place) → k < l.place-index → get_or l.graph.places k p ≡ p → (list : List ℕ) (address : ℕ) → p ≡ At list address → CrossNoneAt l.graph l.loops list address
