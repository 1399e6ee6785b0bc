use Rattle.std.proofs.Common.{◌∙◌, sym}
use Rattle.std.proofs.lemmas.Result.{IfErr-weaker}
use Rattle.image.specs.Labels.{address_of}
use Rattle.handlers.specs.FiqHandler.{IsFiqRefused}
use Rattle.handlers.specs.Refusal.{Carries, stop_fault}
use Rattle.handlers.specs.Report.{BeforeOutput}
use Rattle.handlers.proofs.FiqLemmas.{enters_there, fiq_stopped, fiq_unstated}
use Rattle.handlers.proofs.HandlerLemmas.{refused_as}
use Rattle.handlers.proofs.RefusalLemmas.{carried, unstated}
use Rattle.handlers.proofs.fiq.fiq_handler.Goals as goal

pub returns-in_err-statement-clause-fault : goal.returns-in_err-statement-clause-fault
returns-in_err-statement-clause-fault c = λ bytes is.
    let s = c.in_err-statement.field-0.0 in
    refused_as c.from_residual.result s
    (λ s. BeforeOutput (IsFiqRefused bytes c.args.text.now c.args.profile.now) (stop_fault s))
    c.from_residual.ensures.1
    (fiq_unstated c.args.source.now c.args.text.now c.args.profile.now bytes is s
    c.in_err-statement.ensures.stops)

pub returns-in_err-statement-clause-carries : goal.returns-in_err-statement-clause-carries
returns-in_err-statement-clause-carries c =
    let s = c.in_err-statement.field-0.0 in
    refused_as c.from_residual.result s (Carries c.args.source.now c.args.text.now c.args.profile.now)
    c.from_residual.ensures.1
    (carried c.args.source.now c.args.text.now c.args.profile.now s
    (unstated c.args.source.now c.args.text.now c.args.profile.now s c.in_err-statement.ensures.stops))

pub returns-clause-fault : goal.returns-clause-fault
returns-clause-fault c = λ bytes is.
    let source = c.args.source.now in
    let text = c.args.text.now in
    let profile = c.args.profile.now in
    let right =
    enters_there bytes text profile source.image (address_of source.labels) is c.in_ok-statement.statement
    c.in_ok-statement.ensures.is (sym c.entry.ensures.value ∙ c.if-entry-ne-FIQ_VECTOR.false) in
    IfErr-weaker c.stated_handler.result _ _ (λ s. fiq_stopped source text profile bytes is s right)
    (c.stated_handler.ensures.stops text c.in_ok-statement.ensures.is)

pub returns-clause-carries : goal.returns-clause-carries
returns-clause-carries c =
    IfErr-weaker c.stated_handler.result _ _ (carried c.args.source.now c.args.text.now c.args.profile.now)
    (c.stated_handler.ensures.stops c.args.text.now c.in_ok-statement.ensures.is)

pub returns-clause-is : goal.returns-clause-is
returns-clause-is c = c.stated_handler.ensures.is c.args.text.now c.in_ok-statement.ensures.is
