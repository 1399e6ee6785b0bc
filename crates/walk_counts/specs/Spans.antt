-- Instances by the numbers of their members, and the stays of a walk in them.
use Rattle.std.specs.Prelude.{ℕ, ◌<◌, ◌≤◌, List, Option, None, slice_index_or}
use Rattle.walks.specs.Segments.{tail}
use Rattle.numbered_walks.specs.declared.span.NumberedEdge.{NumberedEdge}
use Rattle.numbered_walks.specs.declared.span.Span.{Span}
use Rattle.numbered_walks.specs.Ordered.{ends_at_header, is_inside}

-- the span's numbers come before that of Exit
abbrev pub EndsBefore : ℕ → Span → Type 0
EndsBefore exit s = (s.header ≤ s.last) × (s.last < exit)

-- the span that begins at a number
abbrev pub header_at : List (Option Span) → ℕ → Option Span
header_at headers n = slice_index_or headers n None

-- the back edges of the stay in the instance in which the walk ends
abbrev pub turns_at_end : Span → List NumberedEdge → ℕ
turns_at_end s walk = tail (is_inside s) (ends_at_header s) walk
