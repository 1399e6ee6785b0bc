use Rattle.std.proofs.Common.{ℕ, ◌+◌, ◌<◌, ◌≤◌, length}
use Rattle.numbered_walks.specs.Tables.{IsPassed, HasRoom}
use Rattle.numbered_walks.specs.Index.{span_at}
use Rattle.numbered_walks.proofs.pass.pass.Given as goal

abbrev pub invariant-loop-closed : goal.invariant-loop-closed
invariant-loop-closed l = IsPassed l.graph.edges.now l.graph.spans.now l.closed l.placed l.tables × HasRoom (l.graph.exit + 1) l.tables × (l.placed ≤ l.graph.exit + 1) × ((n : ℕ) → l.closed ≤ n → n < length l.graph.spans.now → l.placed ≤ (span_at l.graph.spans.now n).last + 1)
