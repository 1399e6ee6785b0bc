-- Walks that cost what numbers of places and instances say: what the builder of a folded walk makes (our
-- own).
use Rattle.std.specs.Prelude.{◌≡◌, ◌≢◌, ℕ, ◌+◌, ◌*◌, ◌≤◌, Bool, true, false, cond, not, nat_eq, ◌&&◌, List}
use Rattle.std.specs.Prelude.{◌++◌, Option, Some, None, All, Contains, sum_by}
use Rattle.std.specs.List.{list_all}
use Rattle.walks.specs.Segments.{whole, head, tail, count, most}
use Rattle.numbered_walks.specs.declared.span.NumberedEdge.{NumberedEdge}
use Rattle.numbered_walks.specs.declared.span.Span.{Span}
use Rattle.numbered_walks.specs.declared.tables.Tables.{Tables}
use Rattle.numbered_walks.specs.Ordered.{Leads, cost_of, is_in, is_inside, ends_at_header}
use Rattle.numbered_walks.specs.Tables.{distance_of, arrival_of, round_of}

-- the most turns of any stretch of the walk in the instance
abbrev pub most_in : Span → List NumberedEdge → ℕ
most_in i w = most (is_inside i) (ends_at_header i) w

-- ## A context: the whole graph, or an instance

-- where its walks start: at the entry, or at the header
abbrev pub start_of : Option Span → ℕ
start_of None = 0
start_of (Some i) = i.header

-- its places
abbrev pub holds_in : Option Span → ℕ → Bool
holds_in None p = true
holds_in (Some i) p = is_in i p

-- the whole graph, or an instance of the tree
abbrev pub InTree : List Span → Option Span → Type 0
InTree spans None = Unit {0}
InTree spans (Some i) = Contains spans i

-- with these many rounds taken of each instance, and these distances, arrivals and rounds
module _ (edges : List NumberedEdge) (tree : List Span) (taken : Span → ℕ) (dist : ℕ → ℕ)
    (arr rnd : Span → ℕ) where
  abbrev pub stay : Span → ℕ
  stay j = arr j + taken j * rnd j

  abbrev pub needed : NumberedEdge → ℕ
  needed e = dist e.from + sum_by (λ j. cond (is_in j e.from && not (is_in j e.to)) (stay j) 0) tree + e.cost

  -- the instances inside the context
  abbrev pub below : Option Span → Span → Bool
  below None j = true
  below (Some i) j = is_in i j.header && not (nat_eq j.header i.header)

  abbrev pub turns_in : Option Span → NumberedEdge → Bool
  turns_in None e = false
  turns_in (Some i) e = ends_at_header i e

  -- what a walk from the start of the context to the place costs
  abbrev pub potential_in : Option Span → ℕ → ℕ
  potential_in c p = sum_by (λ j. cond (is_in j p && below c j) (stay j) 0) tree + dist p

  -- a walk from the start of the context to the place, inside the context and with no round of it
  pub record Reach (c : Option Span) (p : ℕ) : Type 0 where
    pub walk : List NumberedEdge
    pub leads : Leads edges (start_of c) walk p
    pub within : list_all (λ e. holds_in c e.from && holds_in c e.to) walk ≡ true
    pub no_turn : All (λ e. turns_in c e ≡ false) walk
    pub kept : (j : Span) → Contains tree j → most_in j walk ≤ taken j
    pub cost : cost_of walk ≡ potential_in c p

  -- one round of an instance
  pub record Round (i : Span) : Type 0 where
    pub walk : List NumberedEdge
    pub leads : Leads edges i.header walk i.header
    pub within : whole {E = NumberedEdge} (is_inside i) (ends_at_header i) walk ≡ true
    pub one : count {E = NumberedEdge} (is_inside i) (ends_at_header i) walk ≡ 1
    pub kept : (j : Span) → Contains tree j → j.header ≢ i.header → most_in j walk ≤ taken j
    pub begins : (j : Span) → Contains tree j → j.header ≢ i.header
        → head {E = NumberedEdge} (is_inside j) (ends_at_header j) walk ≡ 0
    pub cost : cost_of walk ≡ rnd i

  -- all rounds of an instance, one after another: what they add to any walk that has just entered it
  pub record Rounds (i : Span) : Type 0 where
    pub walk : List NumberedEdge
    pub leads : Leads edges i.header walk i.header
    pub within : list_all (is_inside i) walk ≡ true
    pub kept : (j : Span) → Contains tree j → (v : List NumberedEdge) → most_in j v ≤ taken j
        → (j.header ≡ i.header → tail {E = NumberedEdge} (is_inside j) (ends_at_header j) v ≡ 0)
        → most_in j (v ++ walk) ≤ taken j
    pub cost : cost_of walk ≡ taken i * rnd i

-- at the numbers of the tables, with all rounds taken: a walk from the start of the context to the number, ..
abbrev pub IsPathTo : List NumberedEdge → List Span → Tables → Option Span → ℕ → List NumberedEdge → Type 0
IsPathTo edges spans c context p walk =
    (r : Reach edges spans (λ s. s.bound) (distance_of c) (arrival_of c) (round_of c) context p)
    × (r.walk ≡ walk)

-- .. one round of the instance, ..
abbrev pub IsRoundOf : List NumberedEdge → List Span → Tables → Span → List NumberedEdge → Type 0
IsRoundOf edges spans c s walk =
    (r : Round edges spans (λ t. t.bound) (distance_of c) (arrival_of c) (round_of c) s) × (r.walk ≡ walk)

-- .. and all its rounds
abbrev pub AreRoundsOf : List NumberedEdge → List Span → Tables → Span → List NumberedEdge → Type 0
AreRoundsOf edges spans c s walk =
    (r : Rounds edges spans (λ t. t.bound) (distance_of c) (arrival_of c) (round_of c) s) × (r.walk ≡ walk)
