use Rattle.std.proofs.Common.{ℕ, ◌^◌, ◌<◌}
use Rattle.numbered_walks.specs.Tables.{total_of}
use Rattle.numbered_walks.proofs.potentials.totals_fit.Given as goal

abbrev pub invariant-loop-place : goal.invariant-loop-place
invariant-loop-place l = (p : ℕ) → p < l.place → total_of l.graph.spans.now l.tables p < 2 ^ 63
