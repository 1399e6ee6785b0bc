use Rattle.std.proofs.Common.{ℕ, ◌<◌}
use Rattle.text_refusals.specs.SharedHeaders.{IsAlone}
use Rattle.text_refusals.proofs.shared_headers.shared_header.Given as goal

abbrev pub invariant-loop-one : goal.invariant-loop-one
invariant-loop-one l = (k : ℕ) → k < l.one → IsAlone l.loops k
