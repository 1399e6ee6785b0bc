-- Straight stretches of a flow graph: the longest chains of places joined by one edge alone (the basic blocks
-- of compilers, cut also after a word that may be passed over), cut where the calls or loops around change.
use Rattle.std.specs.Prelude.{◌≡◌, ℕ, ◌+◌, ◌<◌, List, length, Contains, slice_index_or}
use Rattle.control_flow.specs.Flow.{Flow, HasEdge}
use Rattle.control_flow.specs.Places.{place_at, place_calls}
use Rattle.control_flow.specs.declared.edges.Edge.{Edge}
use Rattle.control_flow.specs.declared.places.Place.{Place}
use Rattle.loop_bounds.specs.Instance.{Instance, is_member}
use Rattle.loop_bounds.specs.Tree.{Tree}

-- no two edges of the graph are so
abbrev pub AtMostOne : Flow → (Edge → Type 0) → Type 0
AtMostOne flow Is =
    (j k : ℕ) (d : Edge) → j < length flow.edges → k < length flow.edges → Is (slice_index_or flow.edges j d)
    → Is (slice_index_or flow.edges k d) → j ≡ k

-- An edge leads from the one place to the other, and no other edge leaves the one or leads to the other,
-- which is neither Exit nor the entry: walks begin there too. Both are inside the same calls and in the same
-- instances of loops.
pub record LeadsOn (flow : Flow) (tree : Tree) (p q : Place) : Type 0 where
  pub edge : Edge
  pub is_edge : HasEdge flow edge
  pub from : edge.from ≡ p
  pub to : edge.to ≡ q
  pub one_leaves : AtMostOne flow (λ e. e.from ≡ p)
  pub one_arrives : AtMostOne flow (λ e. e.to ≡ q)
  pub is_place : Contains flow.places q
  pub is_no_entry : q ≡ flow.entry → ⊥
  pub same_calls : place_calls p ≡ place_calls q
  pub same_loops : (i : Instance) → Contains tree.instances i → is_member i p ≡ is_member i q

-- each place leads on to the next, nothing leads on to the first, and the last leads on to nothing
pub record IsStretch (flow : Flow) (tree : Tree) (places : List Place) : Type 0 where
  pub some : 0 < length places
  pub begins : (p : Place) → LeadsOn flow tree p (place_at places 0) → ⊥
  pub goes_on : (i : ℕ) → i + 1 < length places
      → LeadsOn flow tree (place_at places i) (place_at places (i + 1))
  pub ends : (i : ℕ) (q : Place) → i + 1 ≡ length places → LeadsOn flow tree (place_at places i) q → ⊥
