use Rattle.std.proofs.Common.{◌∙◌, sym, subst}
use Rattle.std.specs.Prelude.{◌↔◌, IsTrue}
use Rattle.std.proofs.lemmas.Bool.{false≢true}
use Rattle.text_draft.specs.Targets.{LeadsOddly}
use Rattle.text_draft.proofs.TargetLaws.{other_unless_odd}
use Rattle.text_draft.proofs.pc_writers.sets_link.Goals as goal

pub returns-then-may_keep_return_address_at : goal.returns-then-may_keep_return_address_at
returns-then-may_keep_return_address_at c =
    other_unless_odd _ _ _ c.leads_oddly.result
    (λ h. false≢true (sym c.if-may_set_link_by_pc_at.false ∙ c.may_set_link_by_pc_at.ensures.1 h))
    (c.may_keep_return_address_at.ensures.0 c.if-may_keep_return_address_at.true)
    (subst (λ a. IsTrue c.leads_oddly.result ↔ LeadsOddly c.args.image.now a) c.ahead_of.ensures.sum c.leads_oddly.ensures)
