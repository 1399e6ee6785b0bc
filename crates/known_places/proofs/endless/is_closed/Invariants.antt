use Rattle.std.proofs.Common.{ℕ, ◌<◌, ◌≤◌, length}
use Rattle.numbered_walks.specs.Index.{edge_at}
use Rattle.known_places.specs.Endless.{StaysInSpan}
use Rattle.known_places.proofs.endless.is_closed.Given as goal

abbrev pub invariant-loop-place : goal.invariant-loop-place
invariant-loop-place l =
    (k : ℕ) → k < length l.handler.graph.edges → l.span.header ≤ (edge_at l.handler.tree.edges k).from
    → (edge_at l.handler.tree.edges k).from < l.place
    → StaysInSpan l.handler.image.now l.handler.graph l.handler.tree l.table.around.now l.table.known.now l.span k
