use Rattle.handlers.specs.Report.{BeforeOutput, IsRefused}
use Rattle.handlers.proofs.HandlerLemmas.{refused_as}
use Rattle.handlers.proofs.RefusalLemmas.{stop_carries, stop_err}
use Rattle.handlers.proofs.ReportLemmas.{report_refusal}
use Rattle.handlers.specs.Refusal.{stop_fault}
use Rattle.explain_reports.proofs.explain.source_explanation.Goals as goal

pub returns-in_err-handler-clause-fault : goal.returns-in_err-handler-clause-fault
returns-in_err-handler-clause-fault c = λ source is.
    let statement = c.args.explained.statement.now in
    let s = c.in_err-handler.field-0.0 in
    refused_as c.from_residual.result s (λ s. BeforeOutput (IsRefused source statement c.args.profile.now) (stop_fault s)) c.from_residual.ensures.1
    (report_refusal source statement c.args.profile.now (stop_fault s) (c.in_err-handler.ensures.fault source is))

pub returns-in_err-full_explanation-clause-fault : goal.returns-in_err-full_explanation-clause-fault
returns-in_err-full_explanation-clause-fault c = λ source is.
    let statement = c.args.explained.statement.now in
    let e = c.in_err-full_explanation.field-0.0 in
    stop_err c.from_residual-in_err-full_explanation.result e (BeforeOutput (IsRefused source statement c.args.profile.now)) c.from_residual-in_err-full_explanation.ensures.1
    (c.in_err-full_explanation.ensures.fault source statement (c.in_ok-handler.ensures.is.loops source is))

pub returns-clause-explains : goal.returns-clause-explains
returns-clause-explains c = λ source is.
    c.in_ok-full_explanation.ensures.explains source c.args.explained.statement.now is (c.in_ok-handler.ensures.is.loops source is.said)

pub returns-in_err-full_explanation-clause-carries : goal.returns-in_err-full_explanation-clause-carries
returns-in_err-full_explanation-clause-carries c =
    stop_carries c.args.said.now c.args.explained.statement.now c.args.profile.now c.from_residual-in_err-full_explanation.result c.in_err-full_explanation.field-0.0 c.from_residual-in_err-full_explanation.ensures.1 c.in_err-full_explanation.ensures.alone
