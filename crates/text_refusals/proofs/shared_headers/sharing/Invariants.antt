use Rattle.std.proofs.Common.{ℕ, ◌<◌}
use Rattle.text_refusals.specs.SharedHeaders.{SharesWith}
use Rattle.text_refusals.proofs.shared_headers.sharing.Given as goal

abbrev pub invariant-loop-other : goal.invariant-loop-other
invariant-loop-other l = (k : ℕ) → k < l.other → SharesWith l.loops l.one k → ⊥
