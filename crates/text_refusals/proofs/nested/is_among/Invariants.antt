use Rattle.std.proofs.Common.{◌≡◌, ◌<◌, ℕ, get_or}
use Rattle.loop_bounds.specs.declared.loop_instances.LoopInstance.{LoopInstance}
use Rattle.text_refusals.proofs.nested.is_among.Given as goal

abbrev pub invariant-loop-other : goal.invariant-loop-other
invariant-loop-other l = (k : ℕ) (d : LoopInstance) → k < l.other-index → get_or l.found k d ≡ l.one → ⊥
