use Rattle.text_draft.proofs.AccessLaws.{base_none, base_only, base_some}
use Rattle.text_draft.proofs.accesses.base_at.Goals as goal

pub returns-in-Some-clause-some : goal.returns-in-Some-clause-some
returns-in-Some-clause-some c = base_some c.args.image.now c.args.at c.in-Some.instr c.in-Some.ensures.some c.in-Some.ensures.only c.base_used.result c.base_used.ensures

pub returns-in-Some-clause-only : goal.returns-in-Some-clause-only
returns-in-Some-clause-only c = base_only c.args.image.now c.args.at c.in-Some.instr c.in-Some.ensures.some c.in-Some.ensures.only c.base_used.result c.base_used.ensures

pub returns-in-None-clause-only : goal.returns-in-None-clause-only
returns-in-None-clause-only c = base_none c.args.image.now c.args.at c.in-None.ensures.only
