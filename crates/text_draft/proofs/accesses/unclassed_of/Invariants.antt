use Rattle.std.proofs.Common.{◌≡◌, false}
use Rattle.text_draft.specs.Begun.{has_class}
use Rattle.text_draft.proofs.Picked.{SoFar}
use Rattle.text_draft.proofs.accesses.unclassed_of.Given as goal

abbrev pub invariant-loop-found : goal.invariant-loop-found
invariant-loop-found l = SoFar (λ e. has_class l.begun e ≡ false) l.transfers l.found-index l.unclassed.items
