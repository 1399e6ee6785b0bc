use Rattle.std.proofs.Common.{inl, inr}
use Rattle.text_draft.proofs.accesses.class_at.Goals as goal

pub returns-then-by_word : goal.returns-then-by_word
returns-then-by_word c = λ is. elim c.class_by_pc.ensures [
  | inl any ↦ inl any
  | inr by_pc ↦ inr (c.in-Some.instr, c.in-Some.ensures.some, by_pc)
]
