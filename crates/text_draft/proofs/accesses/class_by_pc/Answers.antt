use Rattle.std.proofs.Common.{inl, inr, refl}
use Rattle.text_draft.proofs.accesses.class_by_pc.Goals as goal

pub returns : goal.returns
returns c = elim (c.class_from.ensures refl) [
  | inl any ↦ inl any
  | inr class ↦ inr (record { transfer = c.in-SingleImmediate.x; single = cc; by_pc = cc; class_is = cc })
]
