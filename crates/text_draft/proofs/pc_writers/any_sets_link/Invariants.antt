use Rattle.std.proofs.Common.{ℕ, take}
use Rattle.std.specs.Prelude.{Contains}
use Rattle.text_draft.specs.Targets.{SetsLink}
use Rattle.text_draft.proofs.pc_writers.any_sets_link.Given as goal

abbrev pub invariant-loop-at : goal.invariant-loop-at
invariant-loop-at l = record { none : (a : ℕ) → Contains (take l.at-index l.addresses) a → SetsLink l.image a → ⊥ }
