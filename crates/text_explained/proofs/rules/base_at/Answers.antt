use Rattle.std.proofs.Common.{◌≡◌, None, Some}
use Rattle.text_explained.proofs.RuleLaws.{base_only, base_some}
use Rattle.text_explained.proofs.rules.base_at.Goals as goal

pub returns-in-Some-clause-some : goal.returns-in-Some-clause-some
returns-in-Some-clause-some c = base_some c.args.image.now c.args.at c.in-Some.instr c.in-Some.ensures.some c.in-Some.ensures.only c.base_of.result c.base_of.ensures

pub returns-in-Some-clause-only : goal.returns-in-Some-clause-only
returns-in-Some-clause-only c = base_only c.args.image.now c.args.at c.in-Some.instr c.in-Some.ensures.some c.in-Some.ensures.only c.base_of.result c.base_of.ensures

pub returns-in-None-clause-only : goal.returns-in-None-clause-only
returns-in-None-clause-only c = λ base uses. absurd (let both : None ≡ Some uses.0 = c.in-None.ensures.only uses.0 uses.1 in cc)
