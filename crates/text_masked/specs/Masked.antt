-- How long a mask is set at a time by the handler's own words.
use Rattle.std.specs.Prelude.{◌≡◌, ℕ, ◌<◌, List, length, map}
use Rattle.control_flow.specs.Flow.{Flow}
use Rattle.image.specs.Image.{Words}
use Rattle.longest_walk.specs.Built.{step_at}
use Rattle.loop_bounds.specs.Handler.{IsTreeOf}
use Rattle.loop_bounds.specs.Tree.{Tree}
use Rattle.statement.specs.Stated.{StatedLoops}
use Rattle.text_masked.specs.Held.{IsTimeBy, marked_at}
use Rattle.text_masked.specs.Shown.{IsShownOn}
use Rattle.text_masked.specs.Stretches.{BoundsStretches}
use Rattle.text_masked.specs.declared.marked.MarkedEdge.{MarkedEdge}
use Rattle.text_masked.specs.declared.shown.Mask.{Mask}
use Rattle.text_masked.specs.declared.stretches.MaskedTime.{MaskedTime}
use Rattle.text_masked.specs.declared.stretches.MaskedTime.TheVariants.{AtMost, TooLong, GoesRound}

-- the edges of the tree in their order, each with what the graph's edge shows
pub record AreMarked (words : Words) (mask : Mask) (flow : Flow) (tree : Tree)
    (marked : List MarkedEdge) : Type 0 where
  pub edges : map (λ m. m.edge) marked ≡ tree.edges
  pub shown : (k : ℕ) → k < length marked
      → IsShownOn words mask (step_at flow.edges k) (marked_at marked k).shown

-- no stretch takes more, where there is a number
abbrev pub IsBoundOf : Words → StatedLoops → Flow → Mask → MaskedTime → Type 0
IsBoundOf words loops flow mask (AtMost ticks) = BoundsStretches words loops flow mask ticks
IsBoundOf words loops flow mask TooLong = Unit {0}
IsBoundOf words loops flow mask GoesRound = Unit {0}

-- how long the mask is set at a time: what is found by a tree of the loops, and no stretch takes more
pub record IsMaskedTime (words : Words) (loops : StatedLoops) (flow : Flow) (mask : Mask)
    (time : MaskedTime) : Type 0 where
  pub tree : Tree
  pub is_tree : IsTreeOf flow loops tree
  pub marked : List MarkedEdge
  pub are_marked : AreMarked words mask flow tree marked
  pub found : IsTimeBy (length flow.places) marked tree.spans time
  pub bounds : IsBoundOf words loops flow mask time
