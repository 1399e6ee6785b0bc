use Rattle.std.proofs.lemmas.Result.{on_ok_weaker}
use Rattle.statement.specs.declared.stated.TargetKind.TheVariants.{Jump}
use Rattle.text_draft.specs.Reach.{IsStatedTo}
use Rattle.text_draft.proofs.StatedLaws.{IsKnown, stated_to}
use Rattle.text_draft.proofs.WayLaws.{gains_as}
use Rattle.text_draft.proofs.ways.push_jump.Goals as goal

pub returns-in-Jump : goal.returns-in-Jump
returns-in-Jump c =
    on_ok_weaker c.push_known.result
    (gains_as (IsKnown c.to.result.now) (IsStatedTo c.args.begun.now Jump c.args.at) c.args.out.now.items c.push_known.new.out.items
    (stated_to c.args.begun.now Jump c.args.at c.in-Some.target.now c.to.result.now c.in-Some.ensures c.in-Jump.ensures c.to.ensures.value))
    c.push_known.ensures
