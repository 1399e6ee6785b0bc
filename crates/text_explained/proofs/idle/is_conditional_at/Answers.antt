use Rattle.std.proofs.Common.{sym}
use Rattle.text_explained.proofs.IdleLaws.{cond_decides}
use Rattle.text_explained.proofs.idle.is_conditional_at.Goals as goal

pub returns-in-Some : goal.returns-in-Some
returns-in-Some c =
    cond_decides c.args.image.now c.args.at c.in-Some.word c.action_of.result c.has_condition.result (sym c.in-Some.ensures.value) c.action_of.ensures.value c.has_condition.ensures
