-- The tree of a handler's loop instances, and an order of its places in which each instance is an interval.
use Rattle.std.specs.Prelude.{◌≡◌, ℕ, ◌+◌, ◌<◌, ◌≤◌, ◌==◌, List}
use Rattle.std.specs.Prelude.{length, Contains, slice_index, slice_index_or}
use Rattle.control_flow.specs.declared.places.Place.{Place}
use Rattle.control_flow.specs.declared.places.Place.TheVariants.{Exit}
use Rattle.control_flow.specs.declared.edges.Edge.{Edge}
use Rattle.control_flow.specs.Flow.{Flow}
use Rattle.control_flow.specs.Places.{place_at}
use Rattle.statement.specs.declared.apart.ApartStretch.{ApartStretch}
use Rattle.numbered_walks.specs.declared.span.NumberedEdge.{NumberedEdge}
use Rattle.numbered_walks.specs.declared.span.Span.{Span}
use Rattle.numbered_walks.specs.Ordered.{IsOrdered, is_in}
use Rattle.loop_bounds.specs.Instance.{Instance, is_member, is_header}

-- the instances with the inner ones before the outer ones, and the span of each; for each number the position
-- of its place among the places of the flow graph, Exit's last; the flow graph's edges in turn, between
-- numbers; and the words that are apart from the loops
pub record Tree : Type 0 where
  pub instances : List Instance
  pub spans : List Span
  pub order : List ℕ
  pub edges : List NumberedEdge
  pub apart : List ApartStretch

-- the place of a number
abbrev pub place_in : Flow → Tree → ℕ → Place
place_in flow tree n = place_at flow.places (slice_index_or tree.order n (length flow.places))

-- where the edges that leave the place of a number begin among the graph's, and where they end
abbrev pub first_edge : Flow → Tree → ℕ → ℕ
first_edge flow tree n = slice_index flow.firsts (slice_index tree.order n)

abbrev pub end_edge : Flow → Tree → ℕ → ℕ
end_edge flow tree n = slice_index flow.firsts (slice_index tree.order n + 1)

-- ## Edges between numbers

-- each number below that of Exit stands for one place
pub record ArePlaceNumbers (flow : Flow) (place_of : ℕ → Place) : Type 0 where
  pub exit : place_of (length flow.places) ≡ Exit
  pub place : (n : ℕ) → n < length flow.places → Contains flow.places (place_of n)
  pub number : (p : Place) → Contains flow.places p → (n : ℕ) × (n < length flow.places) × (place_of n ≡ p)
  pub once : (m n : ℕ) → m < length flow.places → n < length flow.places → place_of m ≡ place_of n → m ≡ n

-- the numbers stand for the places as `place_of` has them, and `exit` for Exit
pub record NumbersEdge (place_of : ℕ → Place) (exit : ℕ) (e : Edge) (n : NumberedEdge) : Type 0 where
  pub from_is : place_of n.from ≡ e.from
  pub to_is : place_of n.to ≡ e.to
  pub cost_is : n.cost ≡ e.cost
  pub from_in : n.from < exit
  pub to_in : n.to ≤ exit

-- each edge of the flow graph, in its order
pub record IsNumbered (flow : Flow) (place_of : ℕ → Place) (edges : List NumberedEdge) : Type 0 where
  pub same : length edges ≡ length flow.edges
  pub each : (k : ℕ) (e : Edge) (n : NumberedEdge) → k < length flow.edges
      → NumbersEdge place_of (length flow.places) (slice_index_or flow.edges k e) (slice_index_or edges k n)

-- ## Spans of instances

-- the span holds the numbers of the members, and begins with that of the header
pub record IsSpanOf (flow : Flow) (tree : Tree) (i : Instance) (s : Span) : Type 0 where
  pub members : (n : ℕ) → n ≤ length flow.places → is_member i (place_in flow tree n) ≡ is_in s n
  pub headers : (n : ℕ) → n ≤ length flow.places → is_header i (place_in flow tree n) ≡ (n == s.header)
  pub bound : s.bound ≡ i.bound

-- each instance has its span
pub record AreSpansOf (flow : Flow) (tree : Tree) : Type 0 where
  pub same : length tree.spans ≡ length tree.instances
  pub each : (k : ℕ) (i : Instance) (s : Span) → k < length tree.instances
      → IsSpanOf flow tree (slice_index_or tree.instances k i) (slice_index_or tree.spans k s)

-- ## The tree

-- each place has one number, the entry 0 and Exit the last
pub record IsTree (flow : Flow) (tree : Tree) : Type 0 where
  pub whole : length tree.order ≡ length flow.places + 1
  pub entry_first : place_in flow tree 0 ≡ flow.entry
  pub exit_last : slice_index tree.order (length flow.places) ≡ length flow.places
  pub inside : (n : ℕ) → n < length flow.places → slice_index tree.order n < length flow.places
  pub all : (v : ℕ) → v < length flow.places
      → (n : ℕ) × (n < length flow.places) × (slice_index tree.order n ≡ v)
  pub distinct : (m n : ℕ) → m < n → n < length tree.order
      → slice_index tree.order m ≡ slice_index tree.order n → ⊥
  pub numbered : IsNumbered flow (place_in flow tree) tree.edges
  pub spans_are : AreSpansOf flow tree
  pub ordered : IsOrdered (length flow.places) tree.edges tree.spans
