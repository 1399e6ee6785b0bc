use Rattle.std.proofs.Common.{ℕ, ◌<◌, ◌≤◌}
use Rattle.known_places.specs.Endless.{StaysInSpan}
use Rattle.known_places.proofs.endless.stay_in_span.Given as goal

abbrev pub invariant-loop-number : goal.invariant-loop-number
invariant-loop-number l =
    (k : ℕ) → k < l.number → l.first ≤ k
    → StaysInSpan l.handler.image.now l.handler.graph l.handler.tree l.table.around.now l.table.known.now l.span k
