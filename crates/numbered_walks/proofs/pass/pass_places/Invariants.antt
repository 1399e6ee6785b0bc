use Rattle.std.proofs.Common.{ℕ, ◌+◌}
use Rattle.numbered_walks.specs.Tables.{IsPassed, HasRoom}
use Rattle.numbered_walks.proofs.pass.pass_places.Given as goal

abbrev pub invariant-loop-place : goal.invariant-loop-place
invariant-loop-place l =
    ((closed : ℕ) → IsPassed l.graph.edges.now l.graph.spans.now closed l.start l.initial.tables → IsPassed l.graph.edges.now l.graph.spans.now closed l.place l.tables) × HasRoom (l.graph.exit + 1) l.tables
