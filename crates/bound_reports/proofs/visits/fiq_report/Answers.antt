use Rattle.handlers.specs.FiqHandler.{IsFiqRefused}
use Rattle.handlers.specs.Report.{BeforeOutput}
use Rattle.handlers.proofs.FiqLemmas.{enters_there, fiq_refusal}
use Rattle.handlers.proofs.RefusalLemmas.{stop_carries, stop_err}
use Rattle.bound_reports.proofs.visits.fiq_report.Goals as goal

pub returns-in_err-longest_report-clause-fault : goal.returns-in_err-longest_report-clause-fault
returns-in_err-longest_report-clause-fault c = λ source is.
    let h = c.in_ok-handler.handler in
    let e = c.in_err-longest_report.field-0.0 in
    let loops = c.in_ok-handler.ensures.is.loops source is in
    let g = loops.graph in
    stop_err c.from_residual-in_err-longest_report.result e (BeforeOutput (IsFiqRefused source c.args.statement.now c.args.profile.now)) c.from_residual-in_err-longest_report.ensures.1
    (fiq_refusal source c.args.statement.now c.args.profile.now e
    (enters_there source c.args.statement.now c.args.profile.now g.words g.names g.source_is h.statement g.statement_is c.in_ok-handler.ensures.entry)
    (c.in_err-longest_report.ensures.fault source c.args.statement.now c.args.profile.now loops))

pub returns-clause-report : goal.returns-clause-report
returns-clause-report c = λ source is.
    (c.in_ok-handler.handler.statement, c.in_ok-longest_report.ensures.report source c.args.statement.now c.args.profile.now (c.in_ok-handler.ensures.is.loops source is), c.in_ok-handler.ensures.entry)

pub returns-in_err-longest_report-clause-carries : goal.returns-in_err-longest_report-clause-carries
returns-in_err-longest_report-clause-carries c =
    stop_carries c.args.said.now c.args.statement.now c.args.profile.now c.from_residual-in_err-longest_report.result c.in_err-longest_report.field-0.0 c.from_residual-in_err-longest_report.ensures.1 c.in_err-longest_report.ensures.alone
