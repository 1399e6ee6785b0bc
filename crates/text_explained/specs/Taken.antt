-- What a walk takes at an address.
use Rattle.std.specs.Prelude.{◌≡◌, ℕ, ◌+◌, ◌*◌, ◌≤◌, Bool, true, false, ◌==◌, ◌&&◌, nat_lt, cond, min, max}
use Rattle.std.specs.Prelude.{if◌then◌else◌, List, length, map, filter, fold, count_by, sum_by, Contains}
use Rattle.std.specs.Prelude.{Option, Some, None, is_some, unwrap_or}
use Rattle.std.specs.BTreeMap.{get}
use Rattle.std.specs.List.{list_any, range_with_len}
use Rattle.std.specs.Ordering.{nat_cmp}
use Rattle.control_flow.specs.declared.places.Place.{Place}
use Rattle.control_flow.specs.declared.places.Place.TheVariants.{At, Exit}
use Rattle.control_flow.specs.declared.edges.Edge.{Edge}
use Rattle.control_flow.specs.declared.edges.Label.TheVariants.{Do}
use Rattle.control_flow.specs.Flow.{Flow}
use Rattle.image.specs.Image.{Words, word_of}
use Rattle.longest_walk.specs.Built.{step_at}
use Rattle.walk_counts.specs.Counts.{capped, is_same_label, occurrences}
use Rattle.text_explained.specs.declared.walk_tally.Costs.{Costs}
use Rattle.text_explained.specs.declared.walk_tally.Taken.{Taken}
use Rattle.text_explained.specs.declared.walk_tally.WalkTally.{WalkTally}

-- ## Addresses

-- the place is at the address, whatever the calls
abbrev pub is_at : ℕ → Place → Bool
is_at a (At calls b) = b == a
is_at a Exit = false

-- the graph has a place at the address
abbrev pub is_reached : List Place → ℕ → Bool
is_reached places a = list_any (is_at a) places

-- ## Ranges

-- a cost more
abbrev pub widened : Option Costs → ℕ → Option Costs
widened None cost = Some (record { least = cost; greatest = cost })
widened (Some c) cost = Some (record { least = min c.least cost; greatest = max c.greatest cost })

-- the least and the greatest of some costs, if there are any
abbrev pub range_of : List ℕ → Option Costs
range_of costs = fold widened None costs

-- one of the edges leaves the address and costs so much
pub record IsCostAt (a : ℕ) (edges : List Edge) (n : ℕ) : Type 0 where
  pub edge : Edge
  pub among : Contains edges edge
  pub leaves : is_at a edge.from ≡ true
  pub costs : edge.cost ≡ n

-- the least and the greatest of such costs; None where none of the edges leaves the address
abbrev pub AreCostsAt : ℕ → List Edge → Option Costs → Type 0
AreCostsAt a edges None = (n : ℕ) → IsCostAt a edges n → ⊥
AreCostsAt a edges (Some c) =
    IsCostAt a edges c.least × IsCostAt a edges c.greatest
    × ((n : ℕ) → IsCostAt a edges n → (c.least ≤ n) × (n ≤ c.greatest))

-- ## Numbers

-- 1 for an edge that leaves the address, and its ticks
abbrev pub pass_at : ℕ → Edge → ℕ
pass_at a e = cond (is_at a e.from) 1 0

-- 1 where its instruction is done, too
abbrev pub done_at : ℕ → Edge → ℕ
done_at a e = cond (is_at a e.from && is_same_label e.label Do) 1 0

abbrev pub cost_at : ℕ → Edge → ℕ
cost_at a e = cond (is_at a e.from) e.cost 0

-- a number of each of the first edges, each as often as the walk takes it, in all
abbrev pub in_all : (edges walk : List Edge) → (count : ℕ) → (Edge → ℕ) → ℕ
in_all edges walk count number =
    sum_by (λ k. occurrences edges walk k * number (step_at edges k)) (range_with_len 0 count)

-- the edge with the number leaves the address
abbrev pub is_from : List Edge → (a k : ℕ) → Bool
is_from edges a k = is_at a (step_at edges k).from

-- and the walk takes it
abbrev pub is_taken_from : (edges walk : List Edge) → (a k : ℕ) → Bool
is_taken_from edges walk a k = is_from edges a k && nat_lt 0 (occurrences edges walk k)

-- the costs of those of the first edges that pass a test of their numbers
abbrev pub costs_where : List Edge → (ℕ → Bool) → (count : ℕ) → List ℕ
costs_where edges test count = map (λ k. (step_at edges k).cost) (filter test (range_with_len 0 count))

-- how often the walk takes those of them that leave the address, and does the instruction there, the ticks of
-- all that, the least and the greatest cost of one that it takes, and of any
abbrev pub taken_of : (edges walk : List Edge) → (count a : ℕ) → Taken
taken_of edges walk count a =
    record {
      passes = capped (in_all edges walk count (pass_at a));
      done = capped (in_all edges walk count (done_at a));
      ticks = capped (in_all edges walk count (cost_at a));
      costs = range_of (costs_where edges (is_taken_from edges walk a) count);
      prices = range_of (costs_where edges (is_from edges a) count);
    }

abbrev pub taken_by : Flow → List Edge → (count a : ℕ) → Option Taken
taken_by flow walk count a =
    if is_reached flow.places a then Some (taken_of flow.edges walk count a) else None

-- what the walk takes at the address: how often it leaves it, and does its instruction, the ticks of all
-- that, the least and the greatest of a time, and of any time that the graph allows; None where the graph
-- has no place
abbrev pub taken_at : Flow → List Edge → ℕ → Option Taken
taken_at flow walk a = taken_by flow walk (length flow.edges) a

-- ## Tallies

abbrev pub nothing : Taken
nothing = record { passes = 0; done = 0; ticks = 0; costs = None; prices = None }

-- what is taken at the place's address is set
abbrev pub Puts : Place → Taken → (old new : WalkTally) → Type 0
Puts place taken old new =
    (a : ℕ)
    → get nat_cmp new.by_address a ≡ (if is_at a place then Some taken else get nat_cmp old.by_address a)

-- an edge more, taken so many times
abbrev pub with_edge : Taken → Edge → ℕ → Taken
with_edge t e count =
    record {
      passes = capped (t.passes + count);
      done = capped (t.done + cond (is_same_label e.label Do) count 0);
      ticks = capped (t.ticks + capped (count * e.cost));
      costs = if count == 0 then t.costs else widened t.costs e.cost;
      prices = widened t.prices e.cost;
    }

-- a tally of the places, before any edge
abbrev pub Starts : List Place → WalkTally → Type 0
Starts places t =
    (a : ℕ) → get nat_cmp t.by_address a ≡ (if is_reached places a then Some nothing else None)

-- an edge is added, taken so many times
abbrev pub Adds : Edge → ℕ → (old new : WalkTally) → Type 0
Adds e count old new =
    (a : ℕ) → get nat_cmp new.by_address a
    ≡ (if is_at a e.from then Some (with_edge (unwrap_or (get nat_cmp old.by_address a) nothing) e count)
    else get nat_cmp old.by_address a)

-- the first edges are added
abbrev pub HasAdded : Flow → List Edge → ℕ → WalkTally → Type 0
HasAdded flow walk count t = (a : ℕ) → get nat_cmp t.by_address a ≡ taken_by flow walk count a

abbrev pub IsTally : Flow → List Edge → WalkTally → Type 0
IsTally flow walk t = (a : ℕ) → get nat_cmp t.by_address a ≡ taken_at flow walk a

-- each of the places is at exactly one of the addresses
abbrev pub AreListedOnce : List Place → List ℕ → Type 0
AreListedOnce places all = (p : Place) → Contains places p → count_by (λ a. is_at a p) all ≡ 1

-- each of the places is at a word of the image
abbrev pub AreOnWords : Words → List Place → Type 0
AreOnWords words places =
    (calls : List ℕ) (a : ℕ) → Contains places (At calls a) → is_some (word_of words a) ≡ true
