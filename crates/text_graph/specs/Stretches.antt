-- The straight stretches of a flow graph by numbers, and what a walk takes of them. What a stretch is, by the
-- graph, is said by `Straight`.
use Rattle.std.specs.Prelude.{◌≡◌, ℕ, ◌+◌, ◌-◌, ◌*◌, ◌<◌, ◌≤◌, Bool, ◌&&◌, ◌==◌, not, if◌then◌else◌}
use Rattle.std.specs.Prelude.{List, length, count_by, nat_lt, sum_by, slice_index, slice_index_or}
use Rattle.std.specs.Prelude.{All, Option, Some, None, false, [], ◌∷◌, nat_eq}
use Rattle.std.specs.BTreeMap.{BTreeMap, get}
use Rattle.std.specs.Bool.{beq}
use Rattle.std.specs.Cmp.Lexicographic.{pointwise}
use Rattle.std.specs.List.{filter, flat_map, list_all, range_with_len}
use Rattle.std.specs.Map.{update_all}
use Rattle.std.specs.Ordering.{nat_cmp}
use Rattle.control_flow.specs.Flow.{Flow}
use Rattle.control_flow.specs.Places.{place_calls}
use Rattle.longest_walk.specs.Built.{step_at}
use Rattle.loop_bounds.specs.Tree.{IsTree, Tree, end_edge, first_edge, place_in}
use Rattle.numbered_walks.specs.Index.{AreHolders, edge_at}
use Rattle.numbered_walks.specs.Ordered.{is_in}
use Rattle.numbered_walks.specs.declared.index.Index.{Index}
use Rattle.numbered_walks.specs.declared.span.NumberedEdge.{NumberedEdge}
use Rattle.numbered_walks.specs.declared.span.Span.{Span}
use Rattle.walk_counts.specs.Counts.{capped}
use Rattle.text_graph.specs.Chains.{begins, chain}
use Rattle.text_graph.specs.declared.tables.Drawn.{Drawn}

-- the numbers of the edges from one on, before another
abbrev pub between : (first end : ℕ) → List ℕ
between first end = range_with_len first (end - first)

-- the ticks of an edge, as often as it is taken
abbrev pub edge_ticks : Flow → (counts : List ℕ) → ℕ → ℕ
edge_ticks flow counts k = capped (slice_index counts k * (step_at flow.edges k).cost)

-- Places have the numbers of the tree's order, and edges those of the graph's list.
module _ (flow : Flow) (tree : Tree) where
  -- the edges that leave the place of a number
  abbrev pub leaving : ℕ → List ℕ
  leaving n = between (first_edge flow tree n) (end_edge flow tree n)

  abbrev pub calls_in : ℕ → List ℕ
  calls_in n = place_calls (place_in flow tree n)

  -- how many edges lead to a number
  abbrev pub arrivals : ℕ → ℕ
  arrivals n = count_by (λ e. e.to == n) tree.edges

  -- the loops that hold a number, the inner ones first
  abbrev pub loops_of : ℕ → List Span
  loops_of n = filter (λ s. is_in s n) tree.spans

  -- ## Calls

  -- an edge leads into a routine, to inside of more calls
  abbrev pub is_call : NumberedEdge → Bool
  is_call e = nat_lt (length (calls_in e.from)) (length (calls_in e.to))

  -- a number of which a routine begins, and that of the place that calls it
  abbrev pub calls_by : NumberedEdge → List (ℕ × ℕ)
  calls_by e = if is_call e then (e.to, e.from) ∷ [] else []

  -- from where the routine that begins with a number is called, if one begins with it: one place calls it so,
  -- whose address is the last of the calls
  abbrev pub caller_of : ℕ → Option ℕ
  caller_of = update_all nat_eq (λ n. None) (flat_map calls_by tree.edges)

  -- ## Straight stretches

  -- the number to which the first of the edges leads that leave a number
  abbrev pub end_of : ℕ → ℕ
  end_of n = (edge_at tree.edges (first_edge flow tree n)).to

  -- one edge alone leaves a number, and it alone leads to where it leads, neither to Exit nor to the entry
  abbrev pub is_only_way : ℕ → Bool
  is_only_way n =
      end_edge flow tree n - first_edge flow tree n == 1
      && (arrivals (end_of n) == 1 && (not (end_of n == 0) && nat_lt (end_of n) (length flow.places)))

  abbrev pub only_way : ℕ → Option ℕ
  only_way n = if is_only_way n then Some (end_of n) else None

  -- two numbers are inside the same calls and the same instances of loops
  abbrev pub are_together : (m n : ℕ) → Bool
  are_together m n =
      pointwise ◌==◌ (calls_in m) (calls_in n) && list_all (λ s. beq (is_in s m) (is_in s n)) tree.spans

  -- the stretch of a number goes on, with the number to which its edge leads
  abbrev pub leads_on : ℕ → Bool
  leads_on n = is_only_way n && are_together n (end_of n)

  abbrev pub next_of : ℕ → Option ℕ
  next_of n = if leads_on n then Some (end_of n) else None

  -- no stretch goes on to a number
  abbrev pub is_begin : ℕ → Bool
  is_begin = begins leads_on end_of (length flow.places)

  -- the stretch that begins with a number, whole: no stretch has more numbers than there are places
  abbrev pub stretch_from : ℕ → List ℕ
  stretch_from = chain leads_on end_of (length flow.places)

  -- ## What a walk takes, by how often it takes each edge

  module _ (counts : List ℕ) where
    -- how often it leaves a number
    abbrev pub passes : ℕ → ℕ
    passes n = capped (sum_by (λ k. slice_index counts k) (leaving n))

    -- the ticks of that
    abbrev pub ticks : ℕ → ℕ
    ticks n = capped (sum_by (edge_ticks flow counts) (leaving n))

    -- those of a stretch
    abbrev pub stretch_ticks : List ℕ → ℕ
    stretch_ticks numbers = capped (sum_by ticks numbers)

-- ## Tables

-- the loops that hold each number, and how many edges lead there
pub record AreTables (flow : Flow) (tree : Tree) (index : Index) (counted : List ℕ) : Type 0 where
  pub holders : AreHolders tree.spans index.holders.items
  pub all_held : length index.holders.items ≡ length flow.places + 1
  pub all_counted : length counted ≡ length flow.places + 1
  pub are_counted : (n : ℕ) → n ≤ length flow.places → slice_index counted n ≡ arrivals flow tree n

-- by number where each routine is called
abbrev pub AreCallers : Flow → Tree → BTreeMap ℕ ℕ → Type 0
AreCallers flow tree callers = (n : ℕ) → get nat_cmp callers n ≡ caller_of flow tree n

-- each member of these loops is a place
abbrev pub AreInside : Flow → List Span → Type 0
AreInside flow loops = All (λ s. s.last < length flow.places) loops

-- numbers of places, one at least
pub record AreNumbers (flow : Flow) (numbers : List ℕ) : Type 0 where
  pub some : 0 < length numbers
  pub inside : (i : ℕ) → i < length numbers → slice_index numbers i < length flow.places

-- whether a stretch begins with each number
pub record AreBegins (flow : Flow) (tree : Tree) (begins : List Bool) : Type 0 where
  pub all : length begins ≡ length flow.places
  pub are : (n : ℕ) → n < length flow.places → slice_index_or begins n false ≡ is_begin flow tree n

-- what each call that draws is handed: the tables of a graph and of its tree, and a count for each edge
pub record CanDraw (d : Drawn) : Type 0 where
  pub tree : IsTree d.graph.now d.tree.now
  pub tables : AreTables d.graph.now d.tree.now d.index.now d.arrivals.now
  pub callers : AreCallers d.graph.now d.tree.now d.callers.now
  pub counted : length d.counts.now ≡ length d.graph.now.edges
