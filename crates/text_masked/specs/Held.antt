-- How the stretches are bounded, over the numbers of places: by the greatest cost of a walk along edges of
-- which only those count that begin where the mask is set. Our own.
use Rattle.std.specs.Prelude.{◌≡◌, ℕ, ◌+◌, ◌<◌, ◌≤◌, ◌==◌, ◌&&◌, ◌⊎◌, not, Bool, true, false, if◌then◌else◌}
use Rattle.std.specs.Prelude.{List, ◌∷◌, ◌++◌, length, map, Contains, slice_index_or}
use Rattle.std.specs.List.{filter, list_any}
use Rattle.numbered_walks.specs.Index.{is_up}
use Rattle.numbered_walks.specs.Ordered.{IsGreatest, TooLarge, is_in}
use Rattle.numbered_walks.specs.declared.span.NumberedEdge.{NumberedEdge}
use Rattle.numbered_walks.specs.declared.span.Span.{Span}
use Rattle.text_masked.specs.declared.stretches.MaskedTime.{MaskedTime}
use Rattle.text_masked.specs.declared.stretches.MaskedTime.TheVariants.{AtMost, TooLong, GoesRound}
use Rattle.text_masked.specs.declared.marked.MarkedEdge.{MarkedEdge}
use Rattle.text_masked.specs.declared.shown.Shown.{Shown}
use Rattle.text_masked.specs.declared.shown.Shown.TheVariants.{Sets, Clears, Nothing}

-- ## Edges with what they show

abbrev pub marked_at : List MarkedEdge → ℕ → MarkedEdge
marked_at marked k =
    slice_index_or marked k (record { edge = record { from = 0; to = 0; cost = 0 }; shown = Nothing })

abbrev pub is_set : Shown → Bool
is_set Sets = true
is_set Clears = false
is_set Nothing = false

-- ## Where the mask is set

-- the answer for a number; false past the end
abbrev pub flag_at : List Bool → ℕ → Bool
flag_at flags n = slice_index_or flags n false

-- the mask is set after the edge: the edge sets it, or it is set before and the edge does not clear it
abbrev pub is_set_after : (before : Bool) → Shown → Bool
is_set_after before Sets = true
is_set_after before Clears = false
is_set_after before Nothing = before

abbrev pub carries : List Bool → MarkedEdge → Bool
carries held m = is_set_after (flag_at held m.edge.from) m.shown

-- such an edge leads up to the number
abbrev pub IsCarriedUp : List MarkedEdge → List Bool → ℕ → Type 0
IsCarriedUp marked held n =
    (m : MarkedEdge) × Contains marked m × (m.edge.to ≡ n) × (m.edge.from < n) × (carries held m ≡ true)

-- of the first numbers exactly those are held to which such an edge leads up
pub record AreHeld (marked : List MarkedEdge) (done : ℕ) (held : List Bool) : Type 0 where
  pub whole : length held ≡ done
  pub reached : (n : ℕ) → n < done → flag_at held n ≡ true → IsCarriedUp marked held n
  pub all : (n : ℕ) → n < done → IsCarriedUp marked held n → flag_at held n ≡ true

-- ## Loops that turn while the mask is set

-- the mask is set after an edge that leads back
abbrev pub turns : List Bool → MarkedEdge → Bool
turns held m = carries held m && not (is_up m.edge)

-- such an edge leads to the number
abbrev pub turns_at : List Bool → ℕ → MarkedEdge → Bool
turns_at held n m = turns held m && (m.edge.to == n)

-- of the first numbers exactly those are turned to which such an edge leads
pub record AreTurned (marked : List MarkedEdge) (held : List Bool) (size : ℕ)
    (turned : List Bool) : Type 0 where
  pub whole : length turned ≡ size
  pub each : (n : ℕ) → n < size → flag_at turned n ≡ list_any (turns_at held n) marked

-- such an edge leads to a number that is not held
abbrev pub TurnsUnheld : List MarkedEdge → List Bool → Type 0
TurnsUnheld marked held =
    (m : MarkedEdge) × Contains marked m × (turns held m ≡ true) × (flag_at held m.edge.to ≡ false)

-- an edge that sets the mask leads into the span, and not to its header
abbrev pub enters_past : Span → MarkedEdge → Bool
enters_past s m = is_set m.shown && (is_in s m.edge.to && not (m.edge.to == s.header))

-- one enters so a span whose header is turned
abbrev pub enters_turned : List Bool → Span → MarkedEdge → Bool
enters_turned turned s m = flag_at turned s.header && enters_past s m

abbrev pub EntersTurned : List MarkedEdge → List Bool → List Span → Type 0
EntersTurned marked turned spans =
    (m : MarkedEdge) × (s : Span) × Contains marked m × Contains spans s × (enters_turned turned s m ≡ true)

-- a loop goes on while the mask is set, and no number is given
abbrev pub GoesOnRound : List MarkedEdge → (held turned : List Bool) → List Span → Type 0
GoesOnRound marked held turned spans = TurnsUnheld marked held ⊎ EntersTurned marked turned spans

-- ## The edges that count

-- to Exit at no cost
abbrev pub way_out : (exit from : ℕ) → NumberedEdge
way_out exit from = record { from = from; to = exit; cost = 0 }

-- from where the mask is set, as it is, or to Exit where it clears the mask
abbrev pub charged_from : (exit : ℕ) → NumberedEdge → Shown → NumberedEdge
charged_from exit e Sets = e
charged_from exit e Clears = record { from = e.from; to = exit; cost = e.cost }
charged_from exit e Nothing = e

abbrev pub charged : (exit : ℕ) → List Bool → MarkedEdge → NumberedEdge
charged exit held m =
    if flag_at held m.edge.from then charged_from exit m.edge m.shown else way_out exit m.edge.from

-- among the other numbers, at no cost
abbrev pub free_from : (exit : ℕ) → List Bool → NumberedEdge → NumberedEdge
free_from exit held e =
    if is_up e && not (flag_at held e.to) then record { from = e.from; to = e.to; cost = 0 }
    else way_out exit e.from

-- from the start at no cost to where an edge sets the mask
abbrev pub free : (exit : ℕ) → List Bool → MarkedEdge → NumberedEdge
free exit held m =
    if is_set m.shown then record { from = 0; to = m.edge.to; cost = 0 } else free_from exit held m.edge

abbrev pub held_edges : (exit : ℕ) → List Bool → List MarkedEdge → List NumberedEdge
held_edges exit held marked =
    way_out exit 0 ∷ (map (charged exit held) marked ++ map (free exit held) marked)

-- the spans that turn while the mask is set
abbrev pub turned_spans : (turned : List Bool) → List Span → List Span
turned_spans turned spans = filter (λ s. flag_at turned s.header) spans

-- ## The greatest cost

-- the greatest cost of a walk to any of the first numbers
pub record IsGreatestOfAll (edges : List NumberedEdge) (spans : List Span) (done ticks : ℕ) : Type 0 where
  pub place : ℕ
  pub inside : place < done
  pub greatest : IsGreatest place edges spans ticks
  pub most : (p : ℕ) → p < done → (m : ℕ) × IsGreatest p edges spans m × (m ≤ ticks)

-- what is counted along these edges
abbrev pub IsCounted : (exit : ℕ) → List NumberedEdge → List Span → MaskedTime → Type 0
IsCounted exit edges spans (AtMost ticks) = IsGreatestOfAll edges spans (exit + 1) ticks
IsCounted exit edges spans TooLong = TooLarge exit edges spans
IsCounted exit edges spans GoesRound = ⊥

-- a loop goes on, or else the edges that count are counted
abbrev pub IsFound : (exit : ℕ) → List MarkedEdge → (held turned : List Bool) → List Span → MaskedTime
    → Type 0
IsFound exit marked held turned spans time =
    ((time ≡ GoesRound) × GoesOnRound marked held turned spans)
    ⊎ ((GoesOnRound marked held turned spans → ⊥)
    × IsCounted exit (held_edges exit held marked) (turned_spans turned spans) time)

-- for edges between numbers, and what they show
pub record IsTimeBy (exit : ℕ) (marked : List MarkedEdge) (spans : List Span)
    (time : MaskedTime) : Type 0 where
  pub held : List Bool
  pub are_held : AreHeld marked exit held
  pub turned : List Bool
  pub are_turned : AreTurned marked held (exit + 1) turned
  pub found : IsFound exit marked held turned spans time
