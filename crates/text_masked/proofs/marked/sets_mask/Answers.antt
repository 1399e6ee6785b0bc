use Rattle.std.proofs.Common.{◌∙◌, sym, ap}
use Rattle.text_masked.specs.Held.{is_set}
use Rattle.text_masked.proofs.OrderLemmas.{set_is}
use Rattle.text_masked.proofs.marked.sets_mask.Goals as goal

pub returns : goal.returns
returns c = (λ h. c.shown_on.ensures.sets.1 (set_is c.shown_on.result (sym c.is_set.ensures ∙ h)), λ s. c.is_set.ensures ∙ ap is_set (c.shown_on.ensures.sets.0 s))
