use Rattle.text_draft.proofs.pc_writers.leads_oddly.Goals as goal

pub returns-then-writes_pc_at : goal.returns-then-writes_pc_at
returns-then-writes_pc_at c = (
  λ e. (c.writes_pc_at.ensures.yes c.if-writes_pc_at.true, c.is_odd_writer_at.ensures.0 e),
  λ h. c.is_odd_writer_at.ensures.1 h.1,
)
