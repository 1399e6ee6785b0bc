use Rattle.std.proofs.Common.{◌≡◌}
use Rattle.handlers.specs.declared.fault.ReportFault.TheVariants.{Memory}
use Rattle.handlers.specs.Refusal.{stop_fault}
use Rattle.handlers.specs.Report.{BeforeOutput}
use Rattle.handlers.proofs.HandlerLemmas.{refused_as}
use Rattle.handlers.proofs.RefusalLemmas.{stop_carries, stop_err}
use Rattle.explain_reports.specs.Check.{IsCheckRefused}
use Rattle.explain_reports.proofs.CheckLemmas.{checkable_refusal, handler_unchecked}
use Rattle.explain_reports.proofs.finding.source_found.Goals as goal

pub returns-in_err-handler-clause-fault : goal.returns-in_err-handler-clause-fault
returns-in_err-handler-clause-fault g c = λ source is.
    let i = c.args.inputs in
    let s = c.in_err-handler.field-0.0 in
    refused_as c.from_residual.result s (λ s. BeforeOutput (IsCheckRefused source i.statement.now i.cert.now c.args.profile.now) (stop_fault s)) c.from_residual.ensures.1
    (handler_unchecked source i.statement.now i.cert.now c.args.profile.now (stop_fault s) (c.in_err-handler.ensures.fault source is))

pub returns-in_err-handler-clause-only : goal.returns-in_err-handler-clause-only
returns-in_err-handler-clause-only g c = λ source is able.
    let i = c.args.inputs in
    let s = c.in_err-handler.field-0.0 in
    refused_as c.from_residual.result s (λ s. stop_fault s ≡ Memory) c.from_residual.ensures.1
    (checkable_refusal source i.statement.now i.cert.now c.args.profile.now (stop_fault s) (c.in_err-handler.ensures.fault source is) able)

pub returns-in_err-found_on-clause-fault : goal.returns-in_err-found_on-clause-fault
returns-in_err-found_on-clause-fault g c = λ source is.
    let i = c.args.inputs in
    let e = c.in_err-found_on.field-0.0 in
    stop_err c.from_residual-in_err-found_on.result e (BeforeOutput (IsCheckRefused source i.statement.now i.cert.now c.args.profile.now)) c.from_residual-in_err-found_on.ensures.1
    (c.in_err-found_on.ensures.fault source i.statement.now c.args.profile.now (c.in_ok-handler.ensures.is.loops source is))

pub returns-in_err-found_on-clause-only : goal.returns-in_err-found_on-clause-only
returns-in_err-found_on-clause-only g c = λ source is able.
    let i = c.args.inputs in
    let e = c.in_err-found_on.field-0.0 in
    stop_err c.from_residual-in_err-found_on.result e (λ e. e ≡ Memory) c.from_residual-in_err-found_on.ensures.1
    (c.in_err-found_on.ensures.only source i.statement.now c.args.profile.now able)

pub returns-clause-found : goal.returns-clause-found
returns-clause-found g c = λ source is.
    c.in_ok-found_on.ensures.found source c.args.inputs.statement.now c.args.profile.now (c.in_ok-handler.ensures.is.loops source is)

pub returns-in_err-found_on-clause-carries : goal.returns-in_err-found_on-clause-carries
returns-in_err-found_on-clause-carries g c =
    stop_carries c.args.said.now c.args.inputs.statement.now c.args.profile.now c.from_residual-in_err-found_on.result c.in_err-found_on.field-0.0 c.from_residual-in_err-found_on.ensures.1 c.in_err-found_on.ensures.alone
