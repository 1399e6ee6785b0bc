-- An entry of a loop elsewhere than at its header.
use Rattle.std.specs.Prelude.{◌≡◌, ◌&&◌, not, Bool, false, true, ℕ, List, Contains, Option, Some, None}
use Rattle.control_flow.specs.declared.places.Place.{Place}
use Rattle.control_flow.specs.declared.places.Place.TheVariants.{At}
use Rattle.control_flow.specs.declared.edges.Edge.{Edge}
use Rattle.control_flow.specs.Flow.{Flow, HasEdge}
use Rattle.statement.specs.Stated.{StatedLoops}
use Rattle.statement.specs.declared.stated.Loop.{Loop}
use Rattle.loop_bounds.specs.Extents.{found_instance}
use Rattle.loop_bounds.specs.Instance.{Instance, instance_of, is_header, is_member}
use Rattle.loop_bounds.specs.Nest.{HasMidEntry}
use Rattle.text_refusals.specs.declared.mid_entries.MidEntry.{MidEntry}

-- the handler begins at the place, or the edge leads to it from no member
abbrev pub IsEnteredBy : Flow → Instance → Place → Option Edge → Type 0
IsEnteredBy flow i place None = place ≡ flow.entry
IsEnteredBy flow i place (Some e) = HasEdge flow e × (e.to ≡ place) × (is_member i e.from ≡ false)

-- the instance is entered so at the place, which is not its header
pub record IsMidEntry (flow : Flow) (loops : StatedLoops) (m : MidEntry) : Type 0 where
  pub mid : HasMidEntry flow loops
  pub instance_is : mid.instance ≡ found_instance loops.apart m.instance
  pub place_is : mid.place ≡ m.place
  pub entered_by : IsEnteredBy flow (found_instance loops.apart m.instance) m.place m.edge

-- ## Of one instance, which clauses of private calls speak of

-- a member elsewhere than at the header
abbrev pub is_mid : Instance → Place → Bool
is_mid i p = is_member i p && not (is_header i p)

-- to such a place from no member
abbrev pub enters_mid : Instance → Edge → Bool
enters_mid i e = is_mid i e.to && not (is_member i e.from)

-- so the handler begins at the place, or the edge leads to it
abbrev pub IsMidOf : Flow → Instance → Place → Option Edge → Type 0
IsMidOf flow i place None = (place ≡ flow.entry) × (is_mid i place ≡ true)
IsMidOf flow i place (Some e) = HasEdge flow e × (e.to ≡ place) × (enters_mid i e ≡ true)

-- neither the handler's begin nor an edge enters the instance so
pub record IsRightlyEntered (flow : Flow) (i : Instance) : Type 0 where
  pub entry : is_mid i flow.entry ≡ false
  pub edges : (e : Edge) → HasEdge flow e → enters_mid i e ≡ false

-- nor one of the loops' instances whose header is the place
abbrev pub AreRightlyEntered : Flow → StatedLoops → Place → Type 0
AreRightlyEntered flow loops header =
    (l : Loop) (list : List ℕ) → Contains loops.list l → header ≡ At list l.header
    → IsRightlyEntered flow (instance_of loops.apart l list)
