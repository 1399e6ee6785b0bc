use Rattle.std.proofs.Common.{◌∙◌, ap, sym}
use Rattle.std.proofs.lemmas.Bool.{false≢true}
use Rattle.text_explained.specs.Links.{counts_as_return}
use Rattle.justify_reports.proofs.returns.is_return.Goals as goal

pub returns-then-may_write_pc : goal.returns-then-may_write_pc
returns-then-may_write_pc c = (
  λ e. record {
    writes = sym c.may_write_pc.ensures ∙ c.if-may_write_pc.true;
    counts = ap counts_as_return (sym c.target_at.ensures.value) ∙ sym c.counts_as_return.ensures ∙ e;
  },
  λ h. c.counts_as_return.ensures ∙ ap counts_as_return c.target_at.ensures.value ∙ h.counts,
)

pub returns-else-may_write_pc : goal.returns-else-may_write_pc
returns-else-may_write_pc c = (
  λ e. absurd (false≢true (sym c.if-may_write_pc.false ∙ e)),
  λ h. absurd (false≢true (sym c.if-may_write_pc.false ∙ c.may_write_pc.ensures ∙ h.writes)),
)
