-- What following a certificate's walk shows of it.
use Rattle.std.specs.Prelude.{◌≡◌, ℕ, ◌+◌, ◌-◌, ◌*◌, ◌<◌, ◌≤◌, ◌^◌, min, Bool, true, false, cond, nat_lt}
use Rattle.std.specs.Prelude.{List, ◌++◌, length, replicate, slice_index, slice_set}
use Rattle.std.specs.Prelude.{All, Contains, Option, Some, None}
use Rattle.std.specs.Option.{option_or}
use Rattle.walks.specs.Walk.{Leads}
use Rattle.control_flow.specs.declared.places.Place.{Place}
use Rattle.control_flow.specs.declared.edges.Edge.{Edge}
use Rattle.control_flow.specs.Flow.{Flow, HasEdge, IsWellFormed, edge_shape}
use Rattle.numbered_walks.specs.declared.span.NumberedEdge.{NumberedEdge}
use Rattle.numbered_walks.specs.declared.span.Span.{Span}
use Rattle.numbered_walks.specs.Index.{edges_of}
use Rattle.numbered_walks.specs.Ordered as O
use Rattle.numbered_walks.specs.Ordered.{HoldsAll, is_in}
use Rattle.numbered_walks.specs.Reach.{most_in}
use Rattle.loop_bounds.specs.Tree.{IsTree, Tree, place_in}
use Rattle.longest_walk.specs.Built.{steps_of}
use Rattle.longest_walk.specs.Folded.{IsCount}
use Rattle.longest_walk.specs.Longest.{AreRepeats}
use Rattle.walk_counts.specs.Spans.{header_at, turns_at_end}
use Rattle.cert_check.specs.declared.index.Index.{Index}
use Rattle.cert_check.specs.declared.walker.Walker.{Walker}
use Rattle.cert_check.specs.declared.walker.Round.{Round}
use Rattle.cert_check.specs.Followed.{Followed}
use Rattle.cert_check.specs.Index.{IsIndex}

-- ## What a walker holds of a walk

-- costs and numbers of back edges are capped at 2^64, which is more than any bound
abbrev pub capped_cost : ℕ → ℕ
capped_cost n = min n (2 ^ 64)

-- what a walker holds after a walk: its cost; the back edges of the stay in each instance where it ends; and
-- an instance in which a stay has more of them than the bound, if there is one
pub record IsWalkerAfter (spans : List Span) (x : Walker) (walk : List NumberedEdge) : Type 0 where
  pub cost_is : x.cost ≡ capped_cost (O.cost_of walk)
  pub turns_are : (s : Span) → Contains spans s → is_in s x.number ≡ true
      → slice_index x.turns.items s.header ≡ capped_cost (turns_at_end s walk)
  pub broken : (s : Span) → x.over ≡ Some s → Contains spans s × (s.bound < most_in s walk)
  pub kept : x.over ≡ None → (s : Span) → Contains spans s → most_in s walk ≤ s.bound

-- what the old one holds of any walk, the new one holds of it with this one after it
abbrev pub Adds : List Span → Walker → Walker → List NumberedEdge → Type 0
Adds spans old new more =
    (walk : List NumberedEdge) → IsWalkerAfter spans old walk → IsWalkerAfter spans new (walk ++ more)

-- nothing is followed yet
pub record IsFresh (exit : ℕ) (x : Walker) : Type 0 where
  pub number_is : x.number ≡ 0
  pub cost_is : x.cost ≡ 0
  pub turns_are : x.turns.items ≡ replicate (exit + 1) 0
  pub over_is : x.over ≡ None

-- ## What an edge, and the rounds of a repeat, change

-- the instance, if these are more back edges than its bound
abbrev pub broken_by : Option Span → ℕ → Option Span
broken_by None turns = None
broken_by (Some s) turns = cond (nat_lt s.bound turns) (Some s) None

-- the back edges of the stay at the header after an edge from this number: one more, or none where the edge
-- enters
abbrev pub turns_after : Option Span → ℕ → ℕ → ℕ
turns_after None from turns = 0
turns_after (Some s) from turns = cond (is_in s from) (capped_cost (turns + 1)) 0

-- what was gained once, so many times
abbrev pub gained : ℕ → ℕ → ℕ → ℕ
gained before after count = capped_cost (capped_cost before + count * (capped_cost after - before))

-- it is at the number with this cost, and with these back edges of the stay in the instance that begins
-- there
pub record Arrives (headers : List (Option Span)) (number cost turns : ℕ) (old new : Walker) : Type 0 where
  pub number_is : new.number ≡ number
  pub cost_is : new.cost ≡ cost
  pub turns_are : new.turns.items ≡ slice_set old.turns.items number turns
  pub over_is : new.over ≡ option_or old.over (broken_by (header_at headers number) turns)

-- ## Following the lines

-- an edge may be followed inside the span, which is that of an instance or of the whole graph
pub record CanFollow (flow : Flow) (tree : Tree) (index : Index) (within : Span) (x : Walker) : Type 0 where
  pub well_formed : IsWellFormed flow
  pub tree_is : IsTree flow tree
  pub indexed : IsIndex (length flow.places) tree.spans index
  pub holds_inner : (s : Span) → Contains tree.spans s → is_in within s.header ≡ true → HoldsAll within s
  pub known : x.number ≤ length flow.places
  pub inside : is_in within x.number ≡ true
  pub room : length x.turns.items ≡ length flow.places + 1

-- the lines stand for a walk inside the span, of at least so many edges, that was followed
pub record IsTaken (flow : Flow) (tree : Tree) (index : Index) (within : Span) (levels least : ℕ)
    (lines : Place → Option Followed) (old new : Walker) : Type 0 where
  pub walk : Followed
  pub numbers : List ℕ
  pub walk_is : lines (place_in flow tree old.number) ≡ Some walk
  pub ends : walk.at ≡ place_in flow tree new.number
  pub inside : All (λ k. k < length flow.edges) numbers
  pub edges_are : walk.opened.walk ≡ steps_of flow.edges numbers
  pub leads : O.Leads tree.edges old.number (edges_of tree.edges numbers) new.number
  pub stays : All (λ e. is_in within e.to ≡ true) (edges_of tree.edges numbers)
  pub long : least ≤ length walk.opened.walk
  pub repeats : AreRepeats flow tree levels walk.opened
  pub adds : Adds tree.spans old new (edges_of tree.edges numbers)
  pub ready : CanFollow flow tree index within new

-- the edge ends in the span
abbrev pub EndsIn : Flow → Tree → Span → Edge → Type 0
EndsIn flow tree within e =
    (n : ℕ) → n ≤ length flow.places → place_in flow tree n ≡ e.to → is_in within n ≡ true

-- the lines stand for no walk from the number that stays in the span and whose repeats are as they have to be
abbrev pub IsRefused : Flow → Tree → Span → ℕ → (Place → Option Followed) → ℕ → Type 0
IsRefused flow tree within levels lines n =
    (f : Followed) (q : Place) → lines (place_in flow tree n) ≡ Some f
    → Leads edge_shape (HasEdge flow) (place_in flow tree n) f.opened.walk q
    → All (EndsIn flow tree within) f.opened.walk → AreRepeats flow tree levels f.opened → ⊥

-- by whether the lines were followed
abbrev pub Follows : Flow → Tree → Index → Span → ℕ → ℕ → (Place → Option Followed) → Walker → Walker → Bool
    → Type 0
Follows flow tree index within levels least lines old new true =
    IsTaken flow tree index within levels least lines old new
Follows flow tree index within levels least lines old new false =
    IsRefused flow tree within levels lines old.number

-- the whole graph as a span
abbrev pub graph_span : Flow → Span
graph_span flow = record { header = 0; last = length flow.places; bound = 0 }

-- ## A repeat

-- what a repeat of so many lines begins with: the instance whose header it is at, and what is known there
pub record Begins (headers : List (Option Span)) (x : Walker) (levels count lines : ℕ)
    (r : Round) : Type 0 where
  pub span_is : header_at headers x.number ≡ Some r.span
  pub cost_is : r.cost ≡ x.cost
  pub turns_are : r.turns ≡ slice_index x.turns.items x.number
  pub some_level : 0 < levels
  pub count_is : IsCount count
  pub some_line : 0 < lines

-- none may begin
abbrev pub CannotBegin : List (Option Span) → Walker → ℕ → ℕ → ℕ → Type 0
CannotBegin headers x levels count lines =
    (s : Span) → header_at headers x.number ≡ Some s → 0 < levels → IsCount count → 0 < lines → ⊥
