-- What is built from the numbers of a greatest walk, before it is carried over to places.
use Rattle.std.specs.Prelude.{◌≡◌, ◌≢◌, ◌↔◌, ℕ, ◌+◌, ◌<◌, ◌≤◌, List, [], ◌∷◌, length, map, slice_index_or}
use Rattle.std.specs.Prelude.{All, Contains, None}
use Rattle.std.specs.List.{AllZip}
use Rattle.std.specs.List.Sorted.{IsStrictlySortedBy}
use Rattle.control_flow.specs.declared.places.Place.{Place}
use Rattle.control_flow.specs.declared.places.Place.TheVariants.{Exit}
use Rattle.control_flow.specs.declared.edges.Edge.{Edge}
use Rattle.control_flow.specs.declared.edges.Label.TheVariants.{Do}
use Rattle.control_flow.specs.Flow.{Flow}
use Rattle.control_flow.specs.Places.{place_cmp}
use Rattle.numbered_walks.specs.declared.span.Span.{Span}
use Rattle.numbered_walks.specs.declared.tables.Tables.{Tables}
use Rattle.numbered_walks.specs.Index.{edge_at, edges_of}
use Rattle.numbered_walks.specs.Reach.{IsPathTo, IsRoundOf}
use Rattle.numbered_walks.specs.Tables.{arrival_of, distance_of, round_of}
use Rattle.loop_bounds.specs.Instance.{Instance}
use Rattle.loop_bounds.specs.Tree.{Tree, place_in}
use Rattle.longest_walk.specs.Folded.{IsCount, most_nested, open_items, unfolded}
use Rattle.longest_walk.specs.Rows.{header_of, header_of_row, place_of_row}
use Rattle.longest_walk.specs.declared.folded.Item.{Item}
use Rattle.longest_walk.specs.declared.rows.PlaceRow.{PlaceRow}
use Rattle.longest_walk.specs.declared.rows.InstanceRow.{InstanceRow}

-- ## The walk

abbrev pub step_at : List Edge → ℕ → Edge
step_at edges k = slice_index_or edges k (record { from = Exit; label = Do; to = Exit; cost = 0 })

-- the edges with these numbers in the list
abbrev pub steps_of : List Edge → List ℕ → List Edge
steps_of edges numbers = map (step_at edges) numbers

-- a repeat's body: the edges of a heaviest round of some span
pub record IsNumberedBody (flow : Flow) (tree : Tree) (c : Tables) (body : List Edge) : Type 0 where
  pub span : Span
  pub in_tree : Contains tree.spans span
  pub numbers : List ℕ
  pub inside : All (λ k. k < length flow.edges) numbers
  pub body_is : body ≡ steps_of flow.edges numbers
  pub some : numbers ≢ []
  pub round : IsRoundOf tree.edges tree.spans c span (edges_of tree.edges numbers)

-- a repeat: all rounds of the span of its body
pub record AreAllNumbered (flow : Flow) (tree : Tree) (c : Tables) (count : ℕ)
    (body : List Edge) : Type 0 where
  pub body_is : IsNumberedBody flow tree c body
  pub count_is : count ≡ body_is.span.bound

-- each edge of these numbers begins after the one before it, the first at the number or after it
abbrev pub Rise : Flow → Tree → ℕ → List ℕ → Type 0
Rise flow tree least [] = Unit {0}
Rise flow tree least (k ∷ rest) =
    (k < length flow.edges) × (least ≤ (edge_at tree.edges k).from)
    × Rise flow tree ((edge_at tree.edges k).from + 1) rest

-- the edges of numbers that rise
pub record AreRising (flow : Flow) (tree : Tree) (edges : List Edge) : Type 0 where
  pub least : ℕ
  pub numbers : List ℕ
  pub edges_are : edges ≡ steps_of flow.edges numbers
  pub rise : Rise flow tree least numbers

-- the edges of a body outside of the repeats in it: some, and they rise
pub record IsRisingBody (flow : Flow) (tree : Tree) (edges : List Edge) : Type 0 where
  pub some : edges ≢ []
  pub rising : AreRising flow tree edges

-- the folded walk unfolds to the edges of a greatest walk from the entry to Exit
pub record IsBuilt (flow : Flow) (tree : Tree) (c : Tables) (items : List Item) : Type 0 where
  pub numbers : List ℕ
  pub inside : All (λ k. k < length flow.edges) numbers
  pub walk_is : unfolded items ≡ steps_of flow.edges numbers
  pub path : IsPathTo tree.edges tree.spans c None (length flow.places) (edges_of tree.edges numbers)
  pub bodies : All (IsNumberedBody flow tree c) (open_items items).bodies
  pub counts : All IsCount (open_items items).counts
  pub shallow : (open_items items).depth ≤ most_nested
  pub all_rounds : AllZip (AreAllNumbered flow tree c) (open_items items).counts (open_items items).bodies
  pub walk_rises : AreRising flow tree (open_items items).outside
  pub bodies_rise : All (IsRisingBody flow tree) (open_items items).bodies_outside

-- ## The rows

-- the distance at the number of the row's place
pub record IsPlaceRowAt (flow : Flow) (tree : Tree) (c : Tables) (r : PlaceRow) : Type 0 where
  pub number : ℕ
  pub inside : number < length flow.places
  pub place_is : place_in flow tree number ≡ place_of_row r
  pub distance_is : r.distance ≡ distance_of c number

-- a row for each place, in the order of places
pub record ArePlaceRowsAt (flow : Flow) (tree : Tree) (c : Tables) (rows : List PlaceRow) : Type 0 where
  pub places_are : map place_of_row rows ≡ flow.places
  pub each : All (IsPlaceRowAt flow tree c) rows

-- the arrival and the round of the span of the row's instance
pub record IsInstanceRowAt (tree : Tree) (c : Tables) (r : InstanceRow) : Type 0 where
  pub number : ℕ
  pub inside : number < length tree.instances
  pub header_is : (d : Instance) → header_of (slice_index_or tree.instances number d) ≡ header_of_row r
  pub arrival_is : (d : Span) → r.arrival ≡ arrival_of c (slice_index_or tree.spans number d)
  pub round_is : (d : Span) → r.round ≡ round_of c (slice_index_or tree.spans number d)

-- a row for each instance, ascending by header
pub record AreInstanceRowsAt (tree : Tree) (c : Tables) (rows : List InstanceRow) : Type 0 where
  pub ascending : IsStrictlySortedBy place_cmp (map header_of_row rows)
  pub instances_are : (p : Place) → Contains (map header_of_row rows) p
      ↔ Contains (map header_of tree.instances) p
  pub each : All (IsInstanceRowAt tree c) rows
