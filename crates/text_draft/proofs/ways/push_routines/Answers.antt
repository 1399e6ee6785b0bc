use Rattle.std.proofs.Common.{subst, sym}
use Rattle.std.proofs.lemmas.Result.{on_ok_weaker}
use Rattle.statement.specs.declared.stated.TargetKind.TheVariants.{Call}
use Rattle.text_draft.specs.Reach.{Calls, IsStatedTo}
use Rattle.text_draft.proofs.WayLaws.{calls_nothing, gains_as, gains_none}
use Rattle.text_draft.proofs.ways.push_routines.Goals as goal

pub returns-in-Writer : goal.returns-in-Writer
returns-in-Writer c =
    on_ok_weaker c.push_stated_call.result
    (gains_as (IsStatedTo c.args.begun.now Call c.args.at) (Calls c.args.begun.now c.args.at c.args.kind) c.args.out.now.items
    c.push_stated_call.new.out.items
    (λ a. (
      (λ h. subst (λ w. Calls c.args.begun.now c.args.at w a) (sym c.in-Writer.is) h),
      (λ h. subst (λ w. Calls c.args.begun.now c.args.at w a) c.in-Writer.is h),
    )))
    c.push_stated_call.ensures
