-- What the search for the greatest walk over numbers finds, and when it refuses.
use Rattle.std.specs.Prelude.{◌≡◌, ℕ, ◌+◌, ◌<◌, ◌≤◌, List, length}
use Rattle.walks.specs.Rows.{Potentials, IsAtMost}
use Rattle.numbered_walks.specs.declared.span.NumberedEdge.{NumberedEdge}
use Rattle.numbered_walks.specs.declared.span.Span.{Span}
use Rattle.numbered_walks.specs.declared.tables.Tables.{Tables}
use Rattle.numbered_walks.specs.declared.fault.WalkFault.{WalkFault}
use Rattle.numbered_walks.specs.declared.fault.WalkFault.TheVariants.{Memory, NoCompleteWalk, BoundTooLarge}
use Rattle.numbered_walks.specs.Ordered.{IsComplete, IsGreatest, TooLarge}
use Rattle.numbered_walks.specs.Tables.{IsPassed, HasRoom, RowsFit, RowsHold, distance_of, is_exit, found_at}
use Rattle.numbered_walks.specs.Tables.{needed, round_of, potentials_of}
use Rattle.numbered_walks.specs.Index.{edge_at}

-- the bound is the greatest cost, the numbers are the least that meet the rows, and no walk costs 2^63
pub record AreFound (exit : ℕ) (edges : List NumberedEdge) (spans : List Span) (c : Tables) : Type 0 where
  pub greatest : IsGreatest exit edges spans c.bound
  pub rows_hold : RowsHold exit edges spans (potentials_of c)
  pub rows_fit : RowsFit exit edges spans (potentials_of c)
  pub least : (other : Potentials ℕ Span) → RowsHold exit edges spans other
      → IsAtMost (is_exit exit) spans (potentials_of c) other
  pub none_too_large : TooLarge exit edges spans → ⊥
  -- each number is what some edge needs
  pub passed : IsPassed edges spans (length spans) (exit + 1) c
  pub closes : c.bound ≡ distance_of c exit
  pub room : HasRoom (exit + 1) c

-- no walk leads to Exit; or one does, and some walk that keeps the bounds costs 2^63 or more
abbrev pub IsWalkFault : ℕ → List NumberedEdge → List Span → WalkFault → Type 0
IsWalkFault exit edges spans Memory = Unit {0}
IsWalkFault exit edges spans NoCompleteWalk = (walk : List NumberedEdge) → IsComplete exit edges walk → ⊥
IsWalkFault exit edges spans BoundTooLarge =
    ((walk : List NumberedEdge) × IsComplete exit edges walk) × TooLarge exit edges spans

-- the edge at this place of the list leads up to the number, whose distance or arrival it asks for
pub record IsEntering (edges : List NumberedEdge) (spans : List Span) (c : Tables)
    (place k : ℕ) : Type 0 where
  pub inside : k < length edges
  pub ends : (edge_at edges k).to ≡ place
  pub up : (edge_at edges k).from < place
  pub asks : found_at spans c place ≡ needed spans c (edge_at edges k)

-- the edge at this place of the list is a back edge of the instance, whose round it asks for
pub record IsTurning (edges : List NumberedEdge) (spans : List Span) (c : Tables) (s : Span)
    (k : ℕ) : Type 0 where
  pub some : 0 < s.bound
  pub inside : k < length edges
  pub ends : (edge_at edges k).to ≡ s.header
  pub low : s.header ≤ (edge_at edges k).from
  pub high : (edge_at edges k).from ≤ s.last
  pub asks : round_of c s ≡ needed spans c (edge_at edges k)
