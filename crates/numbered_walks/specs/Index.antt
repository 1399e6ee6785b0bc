-- Edges and spans by number.
use Rattle.std.specs.Prelude.{◌≡◌, ℕ, ◌+◌, ◌<◌, ◌↔◌, Bool, cond, nat_le, nat_lt, ◌&&◌, List, [], ◌∷◌, ◌++◌}
use Rattle.std.specs.Prelude.{length, map, slice_index_or, Vec, Contains, Option, Some, None, true, false}
use Rattle.std.specs.Global.{Global}
use Rattle.std.specs.List.{filter}
use Rattle.numbered_walks.specs.declared.span.NumberedEdge.{NumberedEdge}
use Rattle.numbered_walks.specs.declared.span.Span.{Span}
use Rattle.numbered_walks.specs.declared.graph.NumberedGraph.{NumberedGraph}
use Rattle.numbered_walks.specs.declared.index.Index.{Index}
use Rattle.numbered_walks.specs.Ordered.{IsOrdered, is_in}

abbrev pub span_at : List Span → ℕ → Span
span_at spans k = slice_index_or spans k (record { header = 0; last = 0; bound = 0 })

abbrev pub edge_at : List NumberedEdge → ℕ → NumberedEdge
edge_at edges k = slice_index_or edges k (record { from = 0; to = 0; cost = 0 })

-- the edges at these places of the list
abbrev pub edges_of : List NumberedEdge → List ℕ → List NumberedEdge
edges_of edges group = map (edge_at edges) group

abbrev pub is_up : NumberedEdge → Bool
is_up e = nat_lt e.from e.to

-- each group has the edges before the limit that lead to its number, and lead up or not
abbrev pub AreGrouped : List NumberedEdge → ℕ → Bool → List (Vec ℕ Global) → Type 0
AreGrouped edges limit up groups =
    (p : ℕ) (d : Vec ℕ Global) → p < length groups → (k : ℕ) → Contains (slice_index_or groups p d).items k
    ↔ ((k < limit) × ((edge_at edges k).to ≡ p) × (is_up (edge_at edges k) ≡ up))

-- the spans that hold each number
abbrev pub AreHolders : List Span → List (Vec Span Global) → Type 0
AreHolders spans holders =
    (p : ℕ) (d : Vec Span Global) → p < length holders
    → (slice_index_or holders p d).items ≡ filter (λ s. is_in s p) spans

-- the same, and one span more at its numbers before q
abbrev pub AreHeldTo : List Span → Span → ℕ → List (Vec Span Global) → Type 0
AreHeldTo seen s q held =
    (p : ℕ) (d : Vec Span Global) → p < length held
    → (slice_index_or held p d).items
    ≡ filter (λ t. is_in t p) seen ++ cond (nat_le s.header p && nat_lt p q) (s ∷ []) []

-- a span that begins at each number where one does
pub record AreHeaders (spans : List Span) (headers : List (Option Span)) : Type 0 where
  pub known : (p : ℕ) (s : Span) → slice_index_or headers p None ≡ Some s → Contains spans s × (s.header ≡ p)
  pub all : (s : Span) → Contains spans s → (t : Span) × (slice_index_or headers s.header None ≡ Some t)

pub record IsIndex (exit : ℕ) (edges : List NumberedEdge) (spans : List Span) (index : Index) : Type 0 where
  pub holders : AreHolders spans index.holders.items
  pub entering : AreGrouped edges (length edges) true index.entering.items
  pub turning : AreGrouped edges (length edges) false index.turning.items
  pub headers : AreHeaders spans index.headers.items
  pub all_held : length index.holders.items ≡ exit + 1
  pub all_entering : length index.entering.items ≡ exit + 1
  pub all_turning : length index.turning.items ≡ exit + 1
  pub all_headers : length index.headers.items ≡ exit + 1

-- edges and spans in order, with their index: what each search for a greatest walk is handed
pub record IsNumberedGraph (graph : NumberedGraph) : Type 0 where
  pub ordered : IsOrdered graph.exit graph.edges.now graph.spans.now
  pub indexed : IsIndex graph.exit graph.edges.now graph.spans.now graph.index.now
