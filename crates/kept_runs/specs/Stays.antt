-- The rounds of the stays that a walk is in.
use Rattle.std.specs.Prelude.{◌≡◌, ℕ, ◌+◌, ◌<◌, ◌≤◌, true, cond, List, Option, Some, None}
use Rattle.std.specs.Prelude.{Contains, slice_index, slice_set}
use Rattle.numbered_walks.specs.declared.span.NumberedEdge.{NumberedEdge}
use Rattle.numbered_walks.specs.declared.span.Span.{Span}
use Rattle.numbered_walks.specs.Ordered.{is_in}
use Rattle.numbered_walks.specs.Reach.{most_in}
use Rattle.walk_counts.specs.Spans.{header_at, turns_at_end}

-- ## An edge

-- the back edges of the stay at the header where the edge ends: one more, or none where the edge enters
abbrev pub turned : Option Span → NumberedEdge → List ℕ → List ℕ
turned None e turns = turns
turned (Some s) e turns = slice_set turns e.to (cond (is_in s e.from) (slice_index turns e.to + 1) 0)

-- a back edge is one that the bound allows
abbrev pub MayTurn : Option Span → NumberedEdge → List ℕ → Type 0
MayTurn None e turns = Unit {0}
MayTurn (Some s) e turns = is_in s e.from ≡ true → slice_index turns e.to < s.bound

pub record Turns (headers : List (Option Span)) (e : NumberedEdge) (old new : List ℕ) : Type 0 where
  pub may : MayTurn (header_at headers e.to) e old
  pub turns_are : new ≡ turned (header_at headers e.to) e old

-- a back edge of the instance, of which the stay has as many as the bound allows
pub record IsOver (headers : List (Option Span)) (e : NumberedEdge) (turns : List ℕ) (s : Span) : Type 0 where
  pub header : header_at headers e.to ≡ Some s
  pub from_in : is_in s e.from ≡ true
  pub many : s.bound ≤ slice_index turns e.to

-- ## A walk

-- of a walk that ends at the number: the back edges of its stay in each instance where it ends; and it keeps
-- the bounds
pub record AreTurnsAfter (spans : List Span) (turns : List ℕ) (number : ℕ)
    (walk : List NumberedEdge) : Type 0 where
  pub turns_are : (s : Span) → Contains spans s → is_in s number ≡ true
      → slice_index turns s.header ≡ turns_at_end s walk
  pub kept : (s : Span) → Contains spans s → most_in s walk ≤ s.bound
