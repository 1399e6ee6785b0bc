use Rattle.std.proofs.Common.{ℕ, ◌<◌}
use Rattle.longest_walk.specs.Built.{step_at}
use Rattle.cert_check.specs.Weighing.{EdgePasses}
use Rattle.cert_check.proofs.row_tests.first_not_passed.Given as goal

abbrev pub invariant-loop-number : goal.invariant-loop-number
invariant-loop-number l = (k : ℕ) → k < l.number → EdgePasses l.indexed.tree.now l.cert l.test (step_at l.indexed.graph.now.edges k)
