use Rattle.std.proofs.lemmas.Result.{IfErr-weaker}
use Rattle.handlers.specs.Refusal.{Carries, stop_fault}
use Rattle.handlers.specs.Report.{IsHandlerRefused}
use Rattle.handlers.proofs.HandlerLemmas.{refused_as}
use Rattle.handlers.proofs.RefusalLemmas.{refused, carried, unstated}
use Rattle.handlers.proofs.handler.read_handler.Goals as goal

pub returns-in_err-statement-clause-fault : goal.returns-in_err-statement-clause-fault
returns-in_err-statement-clause-fault c = λ bytes is.
    let s = c.in_err-statement.field-0.0 in
    refused_as c.from_residual.result s (λ s. IsHandlerRefused bytes c.args.text.now c.args.profile.now
    (stop_fault s)) c.from_residual.ensures.1
    (refused c.args.source.now c.args.text.now c.args.profile.now s
    (unstated c.args.source.now c.args.text.now c.args.profile.now s c.in_err-statement.ensures.stops) bytes
    is)

pub returns-in_err-statement-clause-carries : goal.returns-in_err-statement-clause-carries
returns-in_err-statement-clause-carries c =
    let s = c.in_err-statement.field-0.0 in
    refused_as c.from_residual.result s (Carries c.args.source.now c.args.text.now c.args.profile.now)
    c.from_residual.ensures.1
    (carried c.args.source.now c.args.text.now c.args.profile.now s
    (unstated c.args.source.now c.args.text.now c.args.profile.now s c.in_err-statement.ensures.stops))

pub returns-clause-fault : goal.returns-clause-fault
returns-clause-fault c = λ bytes is.
    IfErr-weaker c.stated_handler.result _ _
    (λ s h. refused c.args.source.now c.args.text.now c.args.profile.now s h bytes is)
    (c.stated_handler.ensures.stops c.args.text.now c.in_ok-statement.ensures.is)

pub returns-clause-carries : goal.returns-clause-carries
returns-clause-carries c =
    IfErr-weaker c.stated_handler.result _ _ (carried c.args.source.now c.args.text.now c.args.profile.now)
    (c.stated_handler.ensures.stops c.args.text.now c.in_ok-statement.ensures.is)

pub returns-clause-is : goal.returns-clause-is
returns-clause-is c = c.stated_handler.ensures.is c.args.text.now c.in_ok-statement.ensures.is

pub returns-clause-stops : goal.returns-clause-stops
returns-clause-stops c = c.stated_handler.ensures.stops c.args.text.now c.in_ok-statement.ensures.is
