-- How a folded walk is put together from the numbers of edges.
use Rattle.std.specs.Prelude.{◌≡◌, ◌≢◌, ℕ, ◌+◌, ◌<◌, ◌≤◌, true, false, List, [], ◌∷◌, length, flat_map}
use Rattle.std.specs.Prelude.{slice_index_or, count_by, All, Contains, Option, Some, None}
use Rattle.std.specs.List.{AllZip}
use Rattle.control_flow.specs.Flow.{Flow}
use Rattle.numbered_walks.specs.declared.span.NumberedEdge.{NumberedEdge}
use Rattle.numbered_walks.specs.declared.span.Span.{Span}
use Rattle.numbered_walks.specs.declared.index.Index.{Index}
use Rattle.numbered_walks.specs.declared.tables.Tables.{Tables}
use Rattle.numbered_walks.specs.Ordered.{is_in}
use Rattle.numbered_walks.specs.Index.{IsIndex, edge_at, edges_of, span_at}
use Rattle.numbered_walks.specs.Tables.{is_header_in}
use Rattle.numbered_walks.specs.Found.{AreFound, IsEntering}
use Rattle.numbered_walks.specs.Reach.{AreRoundsOf, IsPathTo, IsRoundOf, holds_in, start_of}
use Rattle.loop_bounds.specs.Tree.{Tree, IsTree}
use Rattle.longest_walk.specs.Folded.{IsCount, Opened, joined, most_nested, one_edge, open_items, turned}
use Rattle.longest_walk.specs.Built.{AreAllNumbered, IsNumberedBody, IsRisingBody, step_at, steps_of}
use Rattle.longest_walk.specs.declared.rounds.Rounds.{Rounds}

-- the index and the tables are those of the flow graph's numbers
pub record AreSearched (flow : Flow) (tree : Tree) (index : Index) (c : Tables) : Type 0 where
  pub tree_is : IsTree flow tree
  pub indexed : IsIndex (length flow.places) tree.edges tree.spans index
  pub found : AreFound (length flow.places) tree.edges tree.spans c

-- ## Ways

-- the edges of these numbers lead from the one place to the other, inside the context, and each is one that
-- its end asks for
abbrev pub IsWay : List NumberedEdge → List Span → Tables → Option Span → ℕ → List ℕ → ℕ → Type 0
IsWay edges spans c context from [] to = from ≡ to
IsWay edges spans c context from (k ∷ rest) to =
    ((edge_at edges k).from ≡ from) × IsEntering edges spans c (edge_at edges k).to k
    × (holds_in context (edge_at edges k).to ≡ true) × (start_of context < (edge_at edges k).to)
    × IsWay edges spans c context (edge_at edges k).to rest to

-- ## Rounds and walks

-- all rounds of an instance as an item, where it takes any
abbrev pub opened_rounds : Option Rounds → List Opened
opened_rounds None = []
opened_rounds (Some r) = turned r.count (open_items r.body.value.items) ∷ []

abbrev pub rounds_at : List (Option Rounds) → ℕ → Option Rounds
rounds_at table p = slice_index_or table p None

-- an edge, and all rounds of the instance at whose header it ends
abbrev pub opened_edge : Flow → Tree → List (Option Rounds) → ℕ → List Opened
opened_edge flow tree table k =
    one_edge (step_at flow.edges k) ∷ opened_rounds (rounds_at table (edge_at tree.edges k).to)

abbrev pub opened_way : Flow → Tree → List (Option Rounds) → List ℕ → List Opened
opened_way flow tree table numbers = flat_map (opened_edge flow tree table) numbers

-- it follows the edges of these numbers, with repeats that leave room for so many more round them
pub record IsAlong (flow : Flow) (tree : Tree) (c : Tables) (outer : ℕ) (numbers : List ℕ)
    (o : Opened) : Type 0 where
  pub inside : All (λ k. k < length flow.edges) numbers
  pub walk_is : o.walk ≡ steps_of flow.edges numbers
  pub bodies : All (IsNumberedBody flow tree c) o.bodies
  pub counts : All IsCount o.counts
  pub shallow : o.depth + outer ≤ most_nested + 1
  pub all_rounds : AllZip (AreAllNumbered flow tree c) o.counts o.bodies
  pub bodies_rise : All (IsRisingBody flow tree) o.bodies_outside

abbrev pub depth_at : List Span → ℕ → ℕ
depth_at spans p = count_by (λ s. is_in s p) spans

-- how deep the instances right inside the context are nested
abbrev pub level_in : List Span → Option Span → ℕ
level_in spans None = 1
level_in spans (Some s) = depth_at spans s.header + 1

-- the items follow a greatest walk from the start of the context to the place
pub record IsFollowed (flow : Flow) (tree : Tree) (c : Tables) (context : Option Span) (p : ℕ)
    (items : List Opened) : Type 0 where
  pub numbers : List ℕ
  pub path : IsPathTo tree.edges tree.spans c context p (edges_of tree.edges numbers)
  pub along : IsAlong flow tree c (level_in tree.spans context) numbers (joined items)

-- one round of the span's instance
pub record IsRound (flow : Flow) (tree : Tree) (c : Tables) (s : Span) (items : List Opened) : Type 0 where
  pub numbers : List ℕ
  pub some : numbers ≢ []
  pub bound_some : 0 < s.bound
  pub round : IsRoundOf tree.edges tree.spans c s (edges_of tree.edges numbers)
  pub along : IsAlong flow tree c (depth_at tree.spans s.header + 1) numbers (joined items)
  pub rising : IsRisingBody flow tree (joined items).outside

-- all rounds of the span's instance
pub record IsRounds (flow : Flow) (tree : Tree) (c : Tables) (s : Span) (entry : Option Rounds) : Type 0 where
  pub numbers : List ℕ
  pub rounds : AreRoundsOf tree.edges tree.spans c s (edges_of tree.edges numbers)
  pub along : IsAlong flow tree c (depth_at tree.spans s.header) numbers (joined (opened_rounds entry))

-- the rounds of the first spans are at their headers, and none where no span begins
pub record AreRounds (flow : Flow) (tree : Tree) (c : Tables) (done : ℕ)
    (table : List (Option Rounds)) : Type 0 where
  pub whole : length table ≡ length flow.places + 1
  pub known : (n : ℕ) → n < done → n < length tree.spans
      → IsRounds flow tree c (span_at tree.spans n) (rounds_at table (span_at tree.spans n).header)
  pub plain : (p : ℕ) → is_header_in tree.spans p ≡ false → rounds_at table p ≡ None

-- the rounds of all instances inside the context are known
pub record HasRounds (flow : Flow) (tree : Tree) (c : Tables) (context : Option Span)
    (table : List (Option Rounds)) : Type 0 where
  pub whole : length table ≡ length flow.places + 1
  pub known : (s : Span) → Contains tree.spans s → holds_in context s.header ≡ true
      → start_of context < s.header → IsRounds flow tree c s (rounds_at table s.header)
  pub plain : (p : ℕ) → is_header_in tree.spans p ≡ false → rounds_at table p ≡ None
