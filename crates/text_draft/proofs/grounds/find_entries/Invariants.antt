use Rattle.std.proofs.Common.{◌≡◌, false}
use Rattle.text_draft.specs.Grounds.{is_covered}
use Rattle.text_draft.proofs.Picked.{SoFar}
use Rattle.text_draft.proofs.grounds.find_entries.Given as goal

abbrev pub invariant-loop-access : goal.invariant-loop-access
invariant-loop-access l = SoFar (λ e. is_covered l.rules e ≡ false) l.accesses l.access-index l.entries.items
