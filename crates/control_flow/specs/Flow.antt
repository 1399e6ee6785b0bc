-- A flow graph as a value: its places in order, and the edges of each in turn.
use Rattle.std.specs.Prelude.{◌≡◌, ℕ, ◌+◌, ◌<◌, ◌≤◌, ◌^◌, List, [], length, slice_index, slice_index_or}
use Rattle.std.specs.Prelude.{Contains, ◌⊎◌}
use Rattle.std.specs.List.Sorted.{IsStrictlySortedBy}
use Rattle.std.specs.declared.cmp.Ordering.TheVariants.{Less}
use Rattle.walks.specs.Walk.{Shape, IsReached}
use Rattle.bus_ticks.specs.declared.profile.Profile.{Profile}
use Rattle.control_flow.specs.declared.places.Place.{Place}
use Rattle.control_flow.specs.declared.places.Place.TheVariants.{At, Exit}
use Rattle.control_flow.specs.declared.edges.Edge.{Edge}
use Rattle.control_flow.specs.declared.search.TheConstants.{MOST_PLACES}
use Rattle.control_flow.specs.Places.{IsInRange, place_cmp, place_at}

-- where walks start, the places but Exit, their edges, where the edges of each place begin (and at the end
-- the number of edges), and the profile of the costs
pub record Flow : Type 0 where
  pub entry : Place
  pub places : List Place
  pub edges : List Edge
  pub firsts : List ℕ
  pub profile : Profile

-- an edge for walks
abbrev pub edge_shape : Shape Place Edge
edge_shape = record { from = λ e. e.from; to = λ e. e.to; cost = λ e. e.cost }

abbrev pub HasEdge : Flow → Edge → Type 0
HasEdge flow e = Contains flow.edges e

-- what holds of each flow graph
pub record IsWellFormed (flow : Flow) : Type 0 where
  pub ordered : IsStrictlySortedBy place_cmp flow.places
  pub no_exit : Contains flow.places Exit → ⊥
  pub few : length flow.places ≤ MOST_PLACES
  pub small : (calls : List ℕ) (a : ℕ) → Contains flow.places (At calls a) → IsInRange calls a
  pub starts_outside : (a : ℕ) × (flow.entry ≡ At [] a)
  pub entry_in : Contains flow.places flow.entry
  pub reached : (p : Place) → Contains flow.places p → IsReached edge_shape (HasEdge flow) flow.entry p
  pub starts : (e : Edge) → Contains flow.edges e → Contains flow.places e.from
  pub ends : (e : Edge) → Contains flow.edges e → (e.to ≡ Exit) ⊎ Contains flow.places e.to
  pub costs_some : (e : Edge) → Contains flow.edges e → 0 < e.cost
  pub costs_fit : (e : Edge) → Contains flow.edges e → e.cost < 2 ^ 32
  pub whole : length flow.firsts ≡ length flow.places + 1
  pub first_zero : slice_index flow.firsts 0 ≡ 0
  pub last_all : slice_index flow.firsts (length flow.places) ≡ length flow.edges
  pub rising : (v : ℕ) → v < length flow.places → slice_index flow.firsts v ≤ slice_index flow.firsts (v + 1)
  pub part : (v k : ℕ) (d : Edge) → v < length flow.places → slice_index flow.firsts v ≤ k
      → k < slice_index flow.firsts (v + 1) → (slice_index_or flow.edges k d).from ≡ place_at flow.places v

-- the numbers of the edges that leave a place, from the first on and before the end, none if it has no edges:
-- in the order of places, edges with lower numbers leave earlier ones, and edges from the end on later ones
pub record IsEdgeRange (flow : Flow) (place : Place) (first end : ℕ) : Type 0 where
  pub ordered : first ≤ end
  pub fits : end ≤ length flow.edges
  pub before : (k : ℕ) (d : Edge) → k < first → place_cmp (slice_index_or flow.edges k d).from place ≡ Less
  pub own : (k : ℕ) (d : Edge) → first ≤ k → k < end → (slice_index_or flow.edges k d).from ≡ place
  pub after : (k : ℕ) (d : Edge) → end ≤ k → k < length flow.edges
      → place_cmp place (slice_index_or flow.edges k d).from ≡ Less
