use Rattle.std.proofs.Common.{subst, sym}
use Rattle.std.specs.Prelude.{IfSome}
use Rattle.std.proofs.lemmas.Result.{IfOk-weaker}
use Rattle.handlers.specs.Report.{IsHandlerOf}
use Rattle.source_reports.proofs.proof.handler_of.Goals as goal

pub returns-in-Err-clause-is : goal.returns-in-Err-clause-is
returns-in-Err-clause-is c =
    IfOk-weaker c.without_handler.result _ _
    (λ found none. subst (λ f. IfSome f (IsHandlerOf c.args.read.now c.args.text.now c.args.profile.now)) (sym none) tt)
    c.without_handler.ensures.none
