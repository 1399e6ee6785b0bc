use Rattle.std.proofs.Common.{◌≡◌, false}
use Rattle.text_draft.specs.Begun.{has_target}
use Rattle.text_draft.proofs.Picked.{SoFar}
use Rattle.text_draft.proofs.pc_writers.pending_targets.Given as goal

abbrev pub invariant-loop-found : goal.invariant-loop-found
invariant-loop-found l = SoFar (λ e. has_target l.begun e ≡ false) l.writers l.found-index l.pending.items
