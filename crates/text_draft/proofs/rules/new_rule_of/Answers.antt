use Rattle.std.proofs.Common.{◌∙◌, sym}
use Rattle.text_draft.proofs.RuleLaws.{new_some}
use Rattle.text_draft.proofs.rules.new_rule_of.Goals as goal

pub returns-clause-some : goal.returns-clause-some
returns-clause-some c = λ accesses are.
    new_some c.args.image.now c.args.open_left accesses c.args.begun.now c.args.register c.rule_of.result
    (c.rule_of.ensures.some accesses are) (sym c.has_rule.ensures ∙ c.if-has_rule.false)

pub returns-clause-only : goal.returns-clause-only
returns-clause-only c = λ accesses are r is at. c.rule_of.ensures.only accesses are r is.0 at
