-- What the nodes of a drawing hold, where its edges lead, and what its ticks are in all.
use Rattle.std.specs.Prelude.{◌≡◌, ℕ, ◌<◌, ◌⊎◌, ◌==◌, true, if◌then◌else◌, List, [], length, count_by, sum_by}
use Rattle.std.specs.Prelude.{All, Contains}
use Rattle.std.specs.List.{flat_map, range_with_len}
use Rattle.control_flow.specs.Flow.{Flow}
use Rattle.loop_bounds.specs.Tree.{Tree}
use Rattle.numbered_walks.specs.Index.{edge_at}
use Rattle.text_graph.specs.Chains.{last_in}
use Rattle.text_graph.specs.Stretches.{is_begin, leaving, stretch_from, stretch_ticks}

module _ (flow : Flow) (tree : Tree) where
  -- the numbers in the node of the stretch that begins with one, if one does
  abbrev pub numbers_in : ℕ → List ℕ
  numbers_in n = if is_begin flow tree n then stretch_from flow tree n else []

  -- those in all nodes
  abbrev pub all_numbers : List ℕ
  all_numbers = flat_map numbers_in (range_with_len 0 (length flow.places))

  -- nodes hold each number below Exit's once, and no other
  pub record HoldEachOnce : Type 0 where
    pub once : (k : ℕ) → k < length flow.places → count_by (λ n. n == k) all_numbers ≡ 1
    pub others : All (λ n. n < length flow.places) all_numbers

  -- each edge that is drawn, as it leaves the last number of a node, leads to Exit or to a number with which
  -- a node begins, and so to the node of its name
  abbrev pub LeadToNodes : Type 0
  LeadToNodes =
      (n k : ℕ) → n < length flow.places → is_begin flow tree n ≡ true
      → Contains (leaving flow tree (last_in (stretch_from flow tree n))) k
      → ((edge_at tree.edges k).to ≡ length flow.places)
      ⊎ (((edge_at tree.edges k).to < length flow.places)
      × (is_begin flow tree (edge_at tree.edges k).to ≡ true))

  module _ (counts : List ℕ) where
    -- the ticks in the node of the stretch that begins with a number, if one does
    abbrev pub node_ticks : ℕ → ℕ
    node_ticks n =
        if is_begin flow tree n then stretch_ticks flow tree counts (stretch_from flow tree n) else 0

    -- those of all nodes
    abbrev pub all_ticks : ℕ
    all_ticks = sum_by node_ticks (range_with_len 0 (length flow.places))
