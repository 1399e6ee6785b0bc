use Rattle.std.proofs.Common.{◌∙◌, sym}
use Rattle.std.proofs.lemmas.Bool.{false≢true}
use Rattle.text_draft.proofs.pc_writers.way_at.Goals as goal

pub returns-then-is_return_at : goal.returns-then-is_return_at
returns-then-is_return_at c = λ addresses trusted. (c.is_return_at.ensures addresses trusted).0 c.if-is_return_at.true

pub returns-then-has_return_address : goal.returns-then-has_return_address
returns-then-has_return_address c = λ addresses trusted. (
  λ r. false≢true (sym c.if-is_return_at.false ∙ (c.is_return_at.ensures addresses trusted).1 r),
  c.has_return_address.ensures.0 c.if-has_return_address.true,
)

pub returns-else-has_return_address : goal.returns-else-has_return_address
returns-else-has_return_address c = λ addresses trusted. (
  λ r. false≢true (sym c.if-is_return_at.false ∙ (c.is_return_at.ensures addresses trusted).1 r),
  λ h. false≢true (sym c.if-has_return_address.false ∙ c.has_return_address.ensures.1 h),
)
