-- How the walks that first come to an address are searched, over numbers of places, along edges that are cut
-- where no such walk goes on. Only private functions cite these.
use Rattle.std.specs.Prelude.{◌≡◌, ℕ, ◌<◌, ◌≤◌, ◌⊎◌, Bool, true, false, cond, not, ◌&&◌, List, length, map}
use Rattle.std.specs.Prelude.{max, Contains, Option, Some, None, slice_index_or}
use Rattle.control_flow.specs.Flow.{Flow}
use Rattle.numbered_walks.specs.declared.span.NumberedEdge.{NumberedEdge}
use Rattle.numbered_walks.specs.declared.span.Span.{Span}
use Rattle.numbered_walks.specs.Ordered.{IsGreatest}
use Rattle.loop_bounds.specs.Tree.{Tree, place_in}
use Rattle.responses.specs.declared.ways.Way.{Way}
use Rattle.responses.specs.declared.ways.Way.TheVariants.{Apart, Before, There}
use Rattle.responses.specs.Response.{is_at}

-- ## Where a number lies

-- some walk comes to it, without coming to the address before
abbrev pub is_reached : Way → Bool
is_reached Apart = false
is_reached Before = true
is_reached There = true

-- and may go on
abbrev pub is_before : Way → Bool
is_before Apart = false
is_before Before = true
is_before There = false

-- or ends there
abbrev pub is_there : Way → Bool
is_there Apart = false
is_there Before = false
is_there There = true

abbrev pub way_at : List Way → ℕ → Way
way_at ways p = slice_index_or ways p Apart

-- the number's place is at the address
abbrev pub is_number_at : Flow → Tree → (address : ℕ) → ℕ → Bool
is_number_at flow tree address p = is_at address (place_in flow tree p)

-- an edge leads up to the number from where walks go on
abbrev pub IsReachedUp : List NumberedEdge → List Way → ℕ → Type 0
IsReachedUp edges ways p =
    (e : NumberedEdge) × Contains edges e × (e.to ≡ p) × (e.from < p)
    × (is_before (way_at ways e.from) ≡ true)

-- the ways of the first numbers
pub record AreWays (edges : List NumberedEdge) (at : ℕ → Bool) (done : ℕ) (ways : List Way) : Type 0 where
  pub whole : length ways ≡ done
  pub first : 0 < done → is_reached (way_at ways 0) ≡ true
  pub reached : (p : ℕ) → p < done → is_reached (way_at ways p) ≡ true
      → (p ≡ 0) ⊎ IsReachedUp edges ways p
  pub all : (e : NumberedEdge) → Contains edges e → e.from < e.to → e.to < done
      → is_before (way_at ways e.from) ≡ true → is_reached (way_at ways e.to) ≡ true
  pub go_on : (p : ℕ) → p < done → is_reached (way_at ways p) ≡ true
      → is_before (way_at ways p) ≡ not (at p)

-- ## Cut edges

-- it leads to where walks come, and from where none goes on
abbrev pub is_cut : List Way → NumberedEdge → Bool
is_cut ways e = is_reached (way_at ways e.to) && not (is_before (way_at ways e.from))

-- it then leads to Exit at no cost
abbrev pub cut_edge : (exit : ℕ) → List Way → NumberedEdge → NumberedEdge
cut_edge exit ways e = cond (is_cut ways e) (record { from = e.from; to = exit; cost = 0 }) e

abbrev pub cut_edges : (exit : ℕ) → List Way → List NumberedEdge → List NumberedEdge
cut_edges exit ways edges = map (cut_edge exit ways) edges

-- ## The greatest cost

-- the greater of the two, or the one
abbrev pub greater : Option ℕ → ℕ → Option ℕ
greater None ticks = Some ticks
greater (Some other) ticks = Some (max other ticks)

-- some walk to a number where walks end costs so much, and it is the greatest to that number
abbrev pub HasGreatestThere : List NumberedEdge → List Span → List Way → ℕ → Type 0
HasGreatestThere edges spans ways n =
    (p : ℕ) × (is_there (way_at ways p) ≡ true) × IsGreatest p edges spans n

-- the greatest to any of the first numbers; None where walks end at none of them
abbrev pub IsGreatestThere : List NumberedEdge → List Span → List Way → (done : ℕ) → Option ℕ → Type 0
IsGreatestThere edges spans ways done None = (p : ℕ) → p < done → is_there (way_at ways p) ≡ false
IsGreatestThere edges spans ways done (Some n) =
    HasGreatestThere edges spans ways n
    × ((p : ℕ) → p < done → is_there (way_at ways p) ≡ true
    → (m : ℕ) × IsGreatest p edges spans m × (m ≤ n))
