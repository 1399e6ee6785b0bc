use Rattle.handlers.specs.Report.{BeforeOutput, IsRefused}
use Rattle.handlers.proofs.HandlerLemmas.{refused_as}
use Rattle.handlers.proofs.RefusalLemmas.{stop_carries, stop_err}
use Rattle.handlers.proofs.ReportLemmas.{report_refusal}
use Rattle.handlers.specs.Refusal.{stop_fault}
use Rattle.explain_reports.proofs.html.source_page.Goals as goal

pub returns-in_err-handler-clause-fault : goal.returns-in_err-handler-clause-fault
returns-in_err-handler-clause-fault c = λ source is.
    let s = c.in_err-handler.field-0.0 in
    refused_as c.from_residual.result s (λ s. BeforeOutput (IsRefused source c.args.statement.now c.args.profile.now) (stop_fault s)) c.from_residual.ensures.1
    (report_refusal source c.args.statement.now c.args.profile.now (stop_fault s) (c.in_err-handler.ensures.fault source is))

pub returns-in_err-page_of-clause-fault : goal.returns-in_err-page_of-clause-fault
returns-in_err-page_of-clause-fault c = λ source is.
    let e = c.in_err-page_of.field-0.0 in
    stop_err c.from_residual-in_err-page_of.result e (BeforeOutput (IsRefused source c.args.statement.now c.args.profile.now)) c.from_residual-in_err-page_of.ensures.1
    (c.in_err-page_of.ensures.fault source c.args.statement.now c.args.profile.now (c.in_ok-handler.ensures.is.loops source is))

pub returns-clause-shows : goal.returns-clause-shows
returns-clause-shows c = λ source is.
    c.in_ok-page_of.ensures.shows source c.args.statement.now c.args.profile.now is (c.in_ok-handler.ensures.is.loops source is.said)

pub returns-in_err-page_of-clause-carries : goal.returns-in_err-page_of-clause-carries
returns-in_err-page_of-clause-carries c =
    stop_carries c.args.said.now c.args.statement.now c.args.profile.now c.from_residual-in_err-page_of.result c.in_err-page_of.field-0.0 c.from_residual-in_err-page_of.ensures.1 c.in_err-page_of.ensures.alone
