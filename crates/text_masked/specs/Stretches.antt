-- Stretches of a handler's walks along which a mask is set by the handler's own words.
use Rattle.std.specs.Prelude.{ℕ, ◌≤◌, List, [], ◌∷◌, ◌++◌}
use Rattle.walks.specs.Walk.{Leads, cost_of}
use Rattle.control_flow.specs.Flow.{Flow, HasEdge, edge_shape}
use Rattle.control_flow.specs.declared.edges.Edge.{Edge}
use Rattle.control_flow.specs.declared.places.Place.{Place}
use Rattle.image.specs.Image.{Words}
use Rattle.loop_bounds.specs.Bounds.{KeepsTheBounds}
use Rattle.statement.specs.Stated.{StatedLoops}
use Rattle.text_masked.specs.Shown.{ClearsMask, SetsMask}
use Rattle.text_masked.specs.declared.shown.Mask.{Mask}

-- no edge of the walk clears the mask, but perhaps the last
abbrev pub StaysSet : Words → Mask → List Edge → Type 0
StaysSet words mask [] = Unit {0}
StaysSet words mask (e ∷ []) = Unit {0}
StaysSet words mask (e ∷ (next ∷ walk)) = (ClearsMask words mask e → ⊥) × StaysSet words mask (next ∷ walk)

-- A walk from the entry that keeps the loop bounds comes to an edge that sets the mask. It goes on along the
-- stretch, up to an edge that clears the mask, or out of the handler, or to any place before.
pub record IsStretch (words : Words) (loops : StatedLoops) (flow : Flow) (mask : Mask)
    (stretch : List Edge) : Type 0 where
  pub front : List Edge
  pub before : Edge
  pub place : Place
  pub leads : Leads edge_shape (HasEdge flow) flow.entry (front ++ before ∷ stretch) place
  pub kept : KeepsTheBounds flow loops (front ++ before ∷ stretch)
  pub sets : SetsMask words mask before
  pub stays : StaysSet words mask stretch

-- no stretch takes more ticks
abbrev pub BoundsStretches : Words → StatedLoops → Flow → Mask → ℕ → Type 0
BoundsStretches words loops flow mask ticks =
    (stretch : List Edge) → IsStretch words loops flow mask stretch → cost_of edge_shape stretch ≤ ticks
