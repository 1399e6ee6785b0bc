-- Numbered nodes and their edges, for searches of the flow graph in linear time. The nodes are the numbers
-- from 0 to that of the exit, which no edge leaves.
use Rattle.std.specs.Prelude.{◌≡◌, ℕ, ◌+◌, ◌-◌, ◌<◌, ◌≤◌, List, length, slice_index, slice_index_or}
use Rattle.numbered_walks.specs.declared.span.NumberedEdge.{NumberedEdge}

-- the exit's number
abbrev pub exit_of : List ℕ → ℕ
exit_of firsts = length firsts - 1

-- the edges are grouped by node: those of the node v begin at `firsts` at v, and end where those of the next
-- begin
pub record IsGrouped (firsts : List ℕ) (edges : List NumberedEdge) : Type 0 where
  pub some : 0 < length firsts
  pub first_zero : slice_index firsts 0 ≡ 0
  pub last_all : slice_index firsts (exit_of firsts) ≡ length edges
  pub rising : (v : ℕ) → v < exit_of firsts → slice_index firsts v ≤ slice_index firsts (v + 1)
  pub part : (v k : ℕ) (d : NumberedEdge) → v < exit_of firsts → slice_index firsts v ≤ k
      → k < slice_index firsts (v + 1) → (slice_index_or edges k d).from ≡ v
  pub arrives : (k : ℕ) (d : NumberedEdge) → k < length edges → (slice_index_or edges k d).to ≤ exit_of firsts
