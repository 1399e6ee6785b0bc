use Rattle.std.proofs.Common.{◌∙◌, ap, sym}
use Rattle.text_explained.specs.Links.{counts_as_return}
use Rattle.text_explained.proofs.links.may_return_at.Goals as goal

pub returns-then-returns_by_link_at : goal.returns-then-returns_by_link_at
returns-then-returns_by_link_at c = (
  λ e. record {
    returns = c.returns_by_link_at.ensures.0 c.if-returns_by_link_at.true;
    counts = ap counts_as_return (sym c.target_at.ensures.value) ∙ sym c.counts_as_return.ensures ∙ e;
  },
  λ h. c.counts_as_return.ensures ∙ ap counts_as_return c.target_at.ensures.value ∙ h.counts,
)
