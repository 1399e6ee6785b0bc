use Rattle.std.proofs.Common.{◌∙◌, ap, sym}
use Rattle.text_explained.specs.Assumed.{is_interrupt_vector}
use Rattle.text_explained.proofs.assumptions.is_left_without_flags.Goals as goal

pub returns : goal.returns
returns c = (
  λ e. record {
    entered = ap is_interrupt_vector (sym c.entry.ensures.value) ∙ sym c.is_interrupt_vector.ensures ∙ c.if-not-is_interrupt_vector.false;
    left = sym (c.requires c.args.at) ∙ sym c.contains.ensures ∙ c.if-not-contains.false;
    flags = c.leaves_flags_at.ensures.0 e;
  },
  λ h. c.leaves_flags_at.ensures.1 h.flags,
)
