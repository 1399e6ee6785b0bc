use Rattle.handlers.specs.Refusal.{stop_fault}
use Rattle.handlers.specs.Report.{BeforeOutput, IsRefused}
use Rattle.handlers.proofs.HandlerLemmas.{refused_as}
use Rattle.handlers.proofs.RefusalLemmas.{stop_carries, stop_err}
use Rattle.handlers.proofs.ReportLemmas.{report_refusal}
use Rattle.bound_reports.proofs.visits.irq_report.Goals as goal

pub returns-in_err-handler-clause-fault : goal.returns-in_err-handler-clause-fault
returns-in_err-handler-clause-fault c = λ source is.
    let s = c.in_err-handler.field-0.0 in
    refused_as c.from_residual.result s (λ s. BeforeOutput (IsRefused source c.args.statement.now c.args.profile.now) (stop_fault s)) c.from_residual.ensures.1
    (report_refusal source c.args.statement.now c.args.profile.now (stop_fault s) (c.in_err-handler.ensures.fault source is))

pub returns-in_err-longest_report-clause-fault : goal.returns-in_err-longest_report-clause-fault
returns-in_err-longest_report-clause-fault c = λ source is.
    let e = c.in_err-longest_report.field-0.0 in
    stop_err c.from_residual-in_err-longest_report.result e (BeforeOutput (IsRefused source c.args.statement.now c.args.profile.now)) c.from_residual-in_err-longest_report.ensures.1
    (c.in_err-longest_report.ensures.fault source c.args.statement.now c.args.profile.now (c.in_ok-handler.ensures.is.loops source is))

pub returns-clause-report : goal.returns-clause-report
returns-clause-report c = λ source is.
    (c.in_ok-handler.handler.statement, c.in_ok-longest_report.ensures.report source c.args.statement.now c.args.profile.now (c.in_ok-handler.ensures.is.loops source is))

pub returns-in_err-longest_report-clause-carries : goal.returns-in_err-longest_report-clause-carries
returns-in_err-longest_report-clause-carries c =
    stop_carries c.args.said.now c.args.statement.now c.args.profile.now c.from_residual-in_err-longest_report.result c.in_err-longest_report.field-0.0 c.from_residual-in_err-longest_report.ensures.1 c.in_err-longest_report.ensures.alone
