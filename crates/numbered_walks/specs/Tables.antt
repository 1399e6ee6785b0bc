-- Potentials as tables by number, and as far as a pass over the numbers has found them.
use Rattle.std.specs.Prelude.{◌≡◌, ◌≢◌, ℕ, ◌+◌, ◌<◌, ◌≤◌, Bool, true, false, cond, nat_eq, ◌⊎◌, List, []}
use Rattle.std.specs.Prelude.{◌∷◌, length, All, Contains, slice_index, sum_by}
use Rattle.walks.specs.declared.limits.TheConstants.{COST_LIMIT}
use Rattle.walks.specs.Rows.{Potentials}
use Rattle.walks.specs.Rows as R
use Rattle.numbered_walks.specs.declared.span.NumberedEdge.{NumberedEdge}
use Rattle.numbered_walks.specs.declared.span.Span.{Span}
use Rattle.numbered_walks.specs.declared.tables.Tables.{Tables}
use Rattle.numbered_walks.specs.Ordered.{number_shape, span_loops, is_in, IsEnteredUp}
use Rattle.numbered_walks.specs.Index.{span_at}

abbrev pub distance_of : Tables → ℕ → ℕ
distance_of c p = slice_index c.distances.items p

-- the arrival and the round of an instance, by the number of its header
abbrev pub arrival_of : Tables → Span → ℕ
arrival_of c s = slice_index c.arrivals.items s.header

abbrev pub round_of : Tables → Span → ℕ
round_of c s = slice_index c.rounds.items s.header

-- the potentials that the tables hold
abbrev pub potentials_of : Tables → Potentials ℕ Span
potentials_of c =
    record { bound = c.bound; distance = distance_of c; arrival = arrival_of c; round = round_of c }

-- ## Rows

abbrev pub stay_of : Tables → Span → ℕ
stay_of c s = R.stay_of number_shape span_loops [] (potentials_of c) s

abbrev pub is_left : NumberedEdge → Span → Bool
is_left e s = R.is_left number_shape span_loops e s

-- what the edge's row asks a number to be at least
abbrev pub needed : List Span → Tables → NumberedEdge → ℕ
needed spans c e = R.needed number_shape span_loops spans (potentials_of c) e

abbrev pub is_exit : ℕ → ℕ → Bool
is_exit exit p = nat_eq p exit

abbrev pub RowsHold : ℕ → List NumberedEdge → List Span → Potentials ℕ Span → Type 0
RowsHold exit edges spans c = R.RowsHold number_shape span_loops spans c (is_exit exit) (Contains edges)

abbrev pub RowsFit : ℕ → List NumberedEdge → List Span → Potentials ℕ Span → Type 0
RowsFit exit edges spans c = R.RowsFit number_shape span_loops spans c (is_exit exit) (Contains edges)

-- what the greatest walk to the number costs
abbrev pub total_of : List Span → Tables → ℕ → ℕ
total_of spans c p = sum_by (λ s. cond (is_in s p) (stay_of c s) 0) spans + distance_of c p

-- ## As far as the pass has come

abbrev pub is_header_in : List Span → ℕ → Bool
is_header_in [] p = false
is_header_in (s ∷ spans) p = cond (nat_eq s.header p) true (is_header_in spans p)

-- what the pass finds for a number: the arrival of the instance that it is the header of, or its distance
abbrev pub found_at : List Span → Tables → ℕ → ℕ
found_at spans c p =
    cond (is_header_in spans p) (slice_index c.arrivals.items p) (slice_index c.distances.items p)

-- the number is what some edge up to it needs
abbrev pub EntersBy : List NumberedEdge → List Span → Tables → ℕ → Type 0
EntersBy edges spans c p =
    (e : NumberedEdge) × Contains edges e × (e.to ≡ p) × (e.from < p)
    × (found_at spans c p ≡ needed spans c e)

-- the round is what some back edge needs
abbrev pub TurnsBy : List NumberedEdge → List Span → Tables → Span → Type 0
TurnsBy edges spans c s =
    (e : NumberedEdge) × Contains edges e × (e.to ≡ s.header) × (e.to ≤ e.from) × (e.from ≤ s.last)
    × (round_of c s ≡ needed spans c e)

-- the entries of the first q numbers and of the first k instances are the final ones, and all others 0
pub record IsPassed (edges : List NumberedEdge) (spans : List Span) (k q : ℕ) (c : Tables) : Type 0 where
  pub closed : (n : ℕ) → n < k → (span_at spans n).last < q
  pub later_distance : (p : ℕ) → q ≤ p → distance_of c p ≡ 0
  pub header_distance : (p : ℕ) → is_header_in spans p ≡ true → distance_of c p ≡ 0
  pub later_round : (n : ℕ) → k ≤ n → n < length spans → round_of c (span_at spans n) ≡ 0
  pub rows : (e : NumberedEdge) → Contains edges e → e.from < e.to → e.to < q
      → (needed spans c e ≤ found_at spans c e.to) × (needed spans c e < COST_LIMIT)
  pub round_rows : (n : ℕ) → n < k → 0 < (span_at spans n).bound → (e : NumberedEdge) → Contains edges e
      → e.to ≡ (span_at spans n).header → e.to ≤ e.from
      → (e.from ≤ (span_at spans n).last) × (needed spans c e ≤ round_of c (span_at spans n))
      × (needed spans c e < COST_LIMIT)
  pub round_zero : (n : ℕ) → n < k → (span_at spans n).bound ≡ 0 → round_of c (span_at spans n) ≡ 0
  pub attained : (p : ℕ) → p < q → ((p ≡ 0) × (found_at spans c p ≡ 0)) ⊎ EntersBy edges spans c p
  pub round_attained : (n : ℕ) → n < k
      → (round_of c (span_at spans n) ≡ 0) ⊎ TurnsBy edges spans c (span_at spans n)

-- each number below the limit but the entry has an edge up to it
abbrev pub AllEntered : List NumberedEdge → ℕ → Type 0
AllEntered edges limit = (p : ℕ) → 0 < p → p < limit → IsEnteredUp edges p

-- what a write of the entry of a number leaves
pub record IsPlaceWritten (spans : List Span) (q v : ℕ) (c new : Tables) : Type 0 where
  pub here : found_at spans new q ≡ v
  pub header_zero : is_header_in spans q ≡ true → distance_of new q ≡ distance_of c q
  pub distances : (p : ℕ) → p ≢ q → distance_of new p ≡ distance_of c p
  pub arrivals : (p : ℕ) → p ≢ q → slice_index new.arrivals.items p ≡ slice_index c.arrivals.items p
  pub rounds : (p : ℕ) → slice_index new.rounds.items p ≡ slice_index c.rounds.items p

pub record IsRoundWritten (h v : ℕ) (c new : Tables) : Type 0 where
  pub here : slice_index new.rounds.items h ≡ v
  pub rounds : (p : ℕ) → p ≢ h → slice_index new.rounds.items p ≡ slice_index c.rounds.items p
  pub distances : (p : ℕ) → distance_of new p ≡ distance_of c p
  pub arrivals : (p : ℕ) → slice_index new.arrivals.items p ≡ slice_index c.arrivals.items p

-- the tables have an entry for each number
pub record HasRoom (size : ℕ) (c : Tables) : Type 0 where
  pub distances : length c.distances.items ≡ size
  pub arrivals : length c.arrivals.items ≡ size
  pub rounds : length c.rounds.items ≡ size

-- the number is the most that one of these edges needs, and 0 with no edge
pub record IsHeaviest (spans : List Span) (c : Tables) (edges : List NumberedEdge) (n : ℕ) : Type 0 where
  pub most : All (λ e. (needed spans c e ≤ n) × (needed spans c e < COST_LIMIT)) edges
  pub attained : ((n ≡ 0) × (edges ≡ [])) ⊎ ((e : NumberedEdge) × Contains edges e × (n ≡ needed spans c e))

-- one of the edges needs too much
abbrev pub IsNotFit : List Span → Tables → List NumberedEdge → Type 0
IsNotFit spans c edges = (e : NumberedEdge) × Contains edges e × (COST_LIMIT ≤ needed spans c e)
