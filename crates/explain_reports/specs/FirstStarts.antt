-- When words begin for the first time, at the latest.
use Rattle.std.specs.Prelude.{◌≡◌, ℕ, Bool, true, false, List, Option, Some, None, option_map}
use Rattle.std.specs.BTreeMap.{BTreeMap, get}
use Rattle.std.specs.Ordering.{nat_cmp}
use Rattle.control_flow.specs.Flow.{Flow}
use Rattle.control_flow.specs.declared.places.Place.{Place}
use Rattle.responses.specs.Response.{IsWorstArrival}
use Rattle.statement.specs.Stated.{StatedLoops}
use Rattle.text_explained.specs.Taken.{is_reached}

-- at each address of one of the places the greatest cost of a walk that comes to it for the first time; None
-- elsewhere
pub record AreFirstStarts (flow : Flow) (loops : StatedLoops) (places : List Place)
    (first : ℕ → Option ℕ) : Type 0 where
  pub there : (a : ℕ) → is_reached places a ≡ true → IsWorstArrival flow loops a (first a)
  pub elsewhere : (a : ℕ) → is_reached places a ≡ false → first a ≡ None

-- those of the graph's places, if they are asked for
abbrev pub AreAskedFirst : Flow → StatedLoops → (asked : Bool) → Option (ℕ → Option ℕ) → Type 0
AreAskedFirst flow loops false first = first ≡ None
AreAskedFirst flow loops true None = ⊥
AreAskedFirst flow loops true (Some first) = AreFirstStarts flow loops flow.places first

-- by their map, if there is one
abbrev pub map_of : Option (BTreeMap ℕ ℕ) → Option (ℕ → Option ℕ)
map_of first = option_map (λ starts. get nat_cmp starts) first
