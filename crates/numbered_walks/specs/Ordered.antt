-- Edges and spans of loop instances over the numbers of places, in an order where each instance is an
-- interval, and what walks, bounds and rows mean along them.
use Rattle.std.specs.Prelude.{◌≡◌, ◌≢◌, ℕ, ◌<◌, ◌≤◌, ◌⊎◌, Bool, true, false, ◌&&◌, nat_le, nat_eq, List}
use Rattle.std.specs.Prelude.{Contains, count_by, AllPairs}
use Rattle.walks.specs.Walk.{Shape}
use Rattle.walks.specs.Walk as W
use Rattle.walks.specs.Greatest.{Loops}
use Rattle.walks.specs.Greatest as G
use Rattle.walks.specs.declared.limits.TheConstants.{MOST_INSTANCES, MOST_ROUNDS}
use Rattle.numbered_walks.specs.declared.span.NumberedEdge.{NumberedEdge}
use Rattle.numbered_walks.specs.declared.span.Span.{Span}

abbrev pub number_shape : Shape ℕ NumberedEdge
number_shape = record { from = λ e. e.from; to = λ e. e.to; cost = λ e. e.cost }

-- the number lies in the span
abbrev pub is_in : Span → ℕ → Bool
is_in s n = nat_le s.header n && nat_le n s.last

abbrev pub span_loops : Loops ℕ Span
span_loops = record { is_member = is_in; is_header = λ s n. nat_eq n s.header; bound = λ s. s.bound }

-- ## What holds of the numbers

-- an edge leads to a greater number, or back from a member to the header
abbrev pub GoesUpOrBack : List Span → NumberedEdge → Type 0
GoesUpOrBack spans e =
    (e.from < e.to) ⊎ ((s : Span) × Contains spans s × (is_in s e.from ≡ true) × (e.to ≡ s.header))

-- some edge leads to the number from a smaller one
abbrev pub IsEnteredUp : List NumberedEdge → ℕ → Type 0
IsEnteredUp edges n = (e : NumberedEdge) × Contains edges e × (e.to ≡ n) × (e.from < n)

-- the inner ones first: by their last numbers, and then by their headers downwards
abbrev pub ClosesBefore : Span → Span → Type 0
ClosesBefore s t = (s.last < t.last) ⊎ ((s.last ≡ t.last) × (t.header < s.header))

abbrev pub HoldsAll : Span → Span → Type 0
HoldsAll outer inner = (n : ℕ) → is_in inner n ≡ true → is_in outer n ≡ true

-- Edges and spans over the numbers of places, where the number of the entry is 0 and that of Exit the
-- greatest: all that searches for greatest walks rest on.
pub record IsOrdered (exit : ℕ) (edges : List NumberedEdge) (spans : List Span) : Type 0 where
  pub some : 0 < exit
  pub places : (e : NumberedEdge) → Contains edges e → (e.from < exit) × (e.to ≤ exit)
  pub goes_up : (e : NumberedEdge) → Contains edges e → GoesUpOrBack spans e
  pub entered_up : (n : ℕ) → 0 < n → n < exit → IsEnteredUp edges n
  pub shape : (s : Span) → Contains spans s → (s.header ≤ s.last) × (s.last < exit) × (s.bound ≤ MOST_ROUNDS)
  pub headers_differ : AllPairs (λ s t. s.header ≢ t.header) spans
  pub closing : AllPairs ClosesBefore spans
  -- two that share a number lie one within the other
  pub nested : (s t : Span) → Contains spans s → Contains spans t → (n : ℕ) → is_in s n ≡ true
      → is_in t n ≡ true → HoldsAll t s ⊎ HoldsAll s t
  -- an instance is entered at its header alone
  pub entered : (e : NumberedEdge) → Contains edges e → (s : Span) → Contains spans s → is_in s e.from ≡ false
      → is_in s e.to ≡ true → e.to ≡ s.header
  -- an entry that is a member is the header
  pub entry_at_header : (s : Span) → Contains spans s → is_in s 0 ≡ true → 0 ≡ s.header
  pub shallow : (n : ℕ) → count_by (λ s. is_in s n) spans ≤ MOST_INSTANCES

-- ## Walks

-- consecutive edges from the one number to the other
abbrev pub Leads : List NumberedEdge → ℕ → List NumberedEdge → ℕ → Type 0
Leads edges p walk q = W.Leads number_shape (Contains edges) p walk q

abbrev pub cost_of : List NumberedEdge → ℕ
cost_of walk = W.cost_of number_shape walk

abbrev pub is_inside : Span → NumberedEdge → Bool
is_inside s e = G.is_inside number_shape span_loops s e

abbrev pub ends_at_header : Span → NumberedEdge → Bool
ends_at_header s e = G.ends_at_header number_shape span_loops s e

abbrev pub KeepsBounds : List Span → List NumberedEdge → Type 0
KeepsBounds spans walk = G.KeepsBounds number_shape span_loops (Contains spans) walk

-- from the entry to Exit
abbrev pub IsComplete : ℕ → List NumberedEdge → List NumberedEdge → Type 0
IsComplete exit edges walk = Leads edges 0 walk exit

-- n is the most that a complete walk within the bounds costs, and one does
abbrev pub IsGreatest : ℕ → List NumberedEdge → List Span → ℕ → Type 0
IsGreatest exit edges spans n = G.IsGreatest number_shape (Contains edges) (KeepsBounds spans) 0 exit n

-- some walk from the entry that keeps the bounds, wherever it ends, costs 2^63 or more
abbrev pub TooLarge : ℕ → List NumberedEdge → List Span → Type 0
TooLarge exit edges spans = G.TooLarge number_shape (Contains edges) (KeepsBounds spans) 0 exit
