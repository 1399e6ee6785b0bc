-- A cycle of a flow graph that no loop bounds.
use Rattle.std.specs.Prelude.{◌≡◌, ◌≢◌, ◌+◌, ◌*◌, ◌<◌, ◌≤◌, ◌⊎◌, ℕ, Bool, List, [], ◌∷◌}
use Rattle.std.specs.Prelude.{AllPairs, Contains, length, slice_index, sum_by}
use Rattle.std.specs.List.{list_any}
use Rattle.walks.specs.Walk.{Leads}
use Rattle.control_flow.specs.declared.places.Place.{Place}
use Rattle.control_flow.specs.declared.edges.Edge.{Edge}
use Rattle.control_flow.specs.Flow.{Flow, edge_shape}
use Rattle.control_flow.specs.Places.{place_at}
use Rattle.statement.specs.Stated.{StatedLoops}
use Rattle.loop_bounds.specs.Instance.{is_back_edge_of}
use Rattle.loop_bounds.specs.Nest.{HasUnboundedCycle, IsPlainEdge}
use Rattle.text_refusals.specs.declared.search.CycleSearch.{CycleSearch}

-- the edges, in their order, are a cycle without a back edge
pub record IsCycleOf (flow : Flow) (loops : StatedLoops) (edges : List Edge) : Type 0 where
  pub cycle : HasUnboundedCycle flow loops
  pub edges_are : edges ≡ cycle.first ∷ cycle.rest

-- no two of them leave one place
abbrev pub IsOnceRound : List Edge → Type 0
IsOnceRound edges = AllPairs (λ e f. e.from ≢ f.from) edges

-- ## The search, which clauses of private calls speak of

-- a back edge of one of the loops, inside the calls of the place where it ends
abbrev pub turns_back : StatedLoops → Edge → Bool
turns_back loops e = list_any (λ l. is_back_edge_of loops.apart l e) loops.list

-- Each place has a mark, and Exit the last one: 0 where the search has shown that no cycle without a back
-- edge goes through it, 1 on the path at hand, 2 elsewhere.
module _ (flow : Flow) (loops : StatedLoops) where
  abbrev pub IsPath : Place → List Edge → Place → Type 0
  IsPath = Leads edge_shape (IsPlainEdge flow loops)

  -- no cycle without a back edge goes through the place
  abbrev pub IsCleared : Place → Type 0
  IsCleared p = (first : Edge) (rest : List Edge) → IsPath p (first ∷ rest) p → ⊥

  pub record AreMarks (marks : List ℕ) : Type 0 where
    pub whole : length marks ≡ length flow.places + 1
    pub exit : slice_index marks (length flow.places) ≡ 0
    pub cleared : (v : ℕ) → v ≤ length flow.places → slice_index marks v ≡ 0
        → IsCleared (place_at flow.places v)

  -- no path is at hand
  pub record IsIdle (s : CycleSearch) : Type 0 where
    pub marks_are : AreMarks s.marks.items
    pub empty : s.path.items ≡ []
    pub none : (v : ℕ) → v < length flow.places → slice_index s.marks.items v ≡ 1 → ⊥

  -- a place on a path: where it ends, or where one of its edges begins
  abbrev pub IsOn : List Edge → ℕ → ℕ → Type 0
  IsOn path at v = (v ≡ at) ⊎ ((e : Edge) × Contains path e × (e.from ≡ place_at flow.places v))

  -- The path leads to the place at hand, and comes to no place twice. The places that are marked so are those
  -- that lie on it.
  pub record IsPathTo (marks : List ℕ) (path : List Edge) (at : ℕ) (start : Place) : Type 0 where
    pub marks_are : AreMarks marks
    pub inside : at < length flow.places
    pub leads : IsPath start path (place_at flow.places at)
    pub on : (v : ℕ) → v < length flow.places → slice_index marks v ≡ 1 → IsOn path at v
    pub marked : (v : ℕ) → v < length flow.places → IsOn path at v → slice_index marks v ≡ 1
    pub once : IsOnceRound path
    pub apart : (e : Edge) → Contains path e → e.from ≢ place_at flow.places at

  abbrev pub IsSearching : CycleSearch → Type 0
  IsSearching s = IsPathTo s.marks.items s.path.items s.at s.start

  -- the path leads back to a place where one of its edges begins, and comes to no other place twice
  pub record IsClosed (path : List Edge) (end : Place) : Type 0 where
    pub start : Place
    pub leads : IsPath start path end
    pub edge : Edge
    pub has : Contains path edge
    pub from : edge.from ≡ end
    pub once : IsOnceRound path

  -- the path is closed, or the place where it began is cleared
  abbrev pub IsEnded : CycleSearch → Type 0
  IsEnded s =
      ((s.at < length flow.places) × IsClosed s.path.items (place_at flow.places s.at))
      ⊎ (IsIdle s × IsCleared s.start)

  -- the edge leads to a place that is not cleared, and is no back edge
  pub record IsOpen (marks : List ℕ) (e : Edge) (to : ℕ) : Type 0 where
    pub plain : IsPlainEdge flow loops e
    pub most : to ≤ length flow.places
    pub end : place_at flow.places to ≡ e.to
    pub marked : slice_index marks to ≢ 0

  -- the edge ends at a place that is cleared
  abbrev pub EndsCleared : List ℕ → Edge → Type 0
  EndsCleared marks e =
      (v : ℕ) × (v ≤ length flow.places) × (place_at flow.places v ≡ e.to) × (slice_index marks v ≡ 0)

  -- so do all from the place that are no back edges
  abbrev pub LeadToCleared : List ℕ → Place → Type 0
  LeadToCleared marks p = (e : Edge) → IsPlainEdge flow loops e → e.from ≡ p → EndsCleared marks e

-- fewer steps than this are left
abbrev pub steps_left : CycleSearch → ℕ
steps_left s = 2 * sum_by (λ m. m) s.marks.items + length s.path.items
