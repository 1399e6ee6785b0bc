use Rattle.std.proofs.Common.{ℕ, ◌<◌}
use Rattle.walk_contradictions.specs.Passing.{ExcludesAt}
use Rattle.walk_contradictions.proofs.outcomes.Outcomes.excludes.Given as goal

abbrev pub invariant-loop-number : goal.invariant-loop-number
invariant-loop-number l = (n : ℕ) → n < l.number → ExcludesAt l.self l.outcome n → ⊥
