use Rattle.std.proofs.Common.{◌∙◌, sym}
use Rattle.text_explained.proofs.RuleLaws.{by_access, by_base, by_no_base}
use Rattle.text_explained.proofs.rules.rule_over.Goals as goal

pub returns-then-has_access : goal.returns-then-has_access
returns-then-has_access c = by_access c.args.image.now c.args.statement.now c.args.at (sym c.has_access.ensures ∙ c.if-has_access.true)

pub returns-in-Some : goal.returns-in-Some
returns-in-Some c =
    by_base c.args.image.now c.args.statement.now c.args.at c.requires (sym c.has_access.ensures ∙ c.if-has_access.false) c.in-Some.base c.in-Some.ensures.some c.in-Some.ensures.only
    c.rule_at.result c.rule_at.ensures

pub returns-in-None : goal.returns-in-None
returns-in-None c = by_no_base c.args.image.now c.args.statement.now c.args.at c.in-None.ensures.only
