-- The longest step of a handler, and the words that take it.
use Rattle.std.specs.Prelude.{◌≡◌, ◌↔◌, ℕ, ◌==◌, ◌&&◌, Bool, true, List, map, max, fold, Contains}
use Rattle.std.specs.List.{list_any}
use Rattle.std.specs.List.Sorted.{IsStrictlySortedBy}
use Rattle.std.specs.Ordering.{nat_cmp}
use Rattle.control_flow.specs.declared.edges.Edge.{Edge}
use Rattle.text_explained.specs.Taken.{is_at}

-- the greatest ticks of one of these edges; 0 where there are none
abbrev pub longest_ticks : List Edge → ℕ
longest_ticks edges = fold max 0 (map (λ e. e.cost) edges)

-- the edge leaves the address and costs so much
abbrev pub costs_at : (ticks a : ℕ) → Edge → Bool
costs_at ticks a e = is_at a e.from && (e.cost == ticks)

-- exactly the addresses that such an edge leaves, ascending
pub record AreLeftAtCost (edges : List Edge) (ticks : ℕ) (named : List ℕ) : Type 0 where
  pub ascending : IsStrictlySortedBy nat_cmp named
  pub each : (a : ℕ) → Contains named a ↔ (list_any (costs_at ticks a) edges ≡ true)

-- exactly the addresses of the longest steps
abbrev pub AreLongestSteps : List Edge → List ℕ → Type 0
AreLongestSteps edges = AreLeftAtCost edges (longest_ticks edges)
