-- How often a walk takes each edge of a list.
use Rattle.std.specs.Prelude.{◌≡◌, ℕ, ◌+◌, ◌-◌, ◌*◌, ◌^◌, ◌<◌, min, Bool, true, false, ◌&&◌, ◌==◌, List}
use Rattle.std.specs.Prelude.{length}
use Rattle.std.specs.Prelude.{count_by, slice_index, sum_by}
use Rattle.std.specs.List.{position_or_len, range_with_len}
use Rattle.std.specs.Ordering.{is_eq}
use Rattle.control_flow.specs.declared.places.Place.{Place}
use Rattle.control_flow.specs.declared.edges.Edge.{Edge}
use Rattle.control_flow.specs.declared.edges.Label.{Label}
use Rattle.control_flow.specs.declared.edges.Label.TheVariants.{Skip, Do}
use Rattle.control_flow.specs.Places.{place_cmp}
use Rattle.longest_walk.specs.Built.{step_at}

-- ## The number of an edge

abbrev pub is_same_place : Place → Place → Bool
is_same_place p q = is_eq (place_cmp p q)

abbrev pub is_same_label : Label → Label → Bool
is_same_label Skip Skip = true
is_same_label Do Do = true
is_same_label Skip Do = false
is_same_label Do Skip = false

-- the same in all parts
abbrev pub is_same_edge : Edge → Edge → Bool
is_same_edge e f =
    is_same_place e.from f.from
    && (is_same_label e.label f.label && (is_same_place e.to f.to && (e.cost == f.cost)))

-- that of the first in the list that is the same; the list's length without one
abbrev pub number_of : List Edge → Edge → ℕ
number_of edges e = position_or_len (is_same_edge e) edges

-- ## Counts

-- how many of the walk's edges are the edge with the number
abbrev pub occurrences : (edges walk : List Edge) → ℕ → ℕ
occurrences edges walk k = count_by (λ e. number_of edges e == k) walk

-- numbers are capped at 2^64 - 1
abbrev pub capped : ℕ → ℕ
capped n = min n (2 ^ 64 - 1)

-- of each edge how often the walk takes it
pub record AreCounts (edges walk : List Edge) (counts : List ℕ) : Type 0 where
  pub whole : length counts ≡ length edges
  pub each : (k : ℕ) → k < length edges → slice_index counts k ≡ capped (occurrences edges walk k)

-- what a number of each edge adds up to, each as often as its count says
abbrev pub counted : List Edge → List ℕ → (Edge → ℕ) → ℕ
counted edges counts number =
    sum_by (λ k. slice_index counts k * number (step_at edges k)) (range_with_len 0 (length edges))

abbrev pub counted_cost : List Edge → List ℕ → ℕ
counted_cost edges counts = counted edges counts (λ e. e.cost)

-- the counts are exact, and so whatever is added up over the walk is added up by them
pub record AreExact (edges walk : List Edge) (counts : List ℕ) : Type 0 where
  pub each : (k : ℕ) → k < length edges → slice_index counts k ≡ occurrences edges walk k
  pub sums : (number : Edge → ℕ) → counted edges counts number ≡ sum_by number walk

-- ## Counting

-- the edges of a walk are counted so many times
pub record Counts (edges walk : List Edge) (times : ℕ) (old new : List ℕ) : Type 0 where
  pub whole : length new ≡ length old
  pub each : (k : ℕ) → k < length edges
      → slice_index new k ≡ capped (slice_index old k + times * occurrences edges walk k)
