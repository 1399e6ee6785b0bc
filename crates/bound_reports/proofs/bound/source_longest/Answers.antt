use Rattle.handlers.specs.Report.{BeforeOutput, IsRefused}
use Rattle.handlers.proofs.RefusalLemmas.{stop_carries, stop_err}
use Rattle.bound_reports.proofs.bound.source_longest.Goals as goal

pub returns-in_err-certified_longest-clause-fault : goal.returns-in_err-certified_longest-clause-fault
returns-in_err-certified_longest-clause-fault c = λ source is.
    let statement = c.args.statement.now in
    let profile = c.args.profile.now in
    let e = c.in_err-certified_longest.field-0.0 in
    stop_err c.from_residual-in_err-certified_longest.result e (BeforeOutput (IsRefused source statement profile)) c.from_residual-in_err-certified_longest.ensures.1
    (c.in_err-certified_longest.ensures.fault source statement profile (c.in_ok-handler.ensures.is.loops source is))

pub returns-clause-report : goal.returns-clause-report
returns-clause-report c = λ source is.
    let report = c.in_ok-certified_longest.ensures.report source c.args.statement.now c.args.profile.now (c.in_ok-handler.ensures.is.loops source is) in
    report.report

pub returns-clause-accepted : goal.returns-clause-accepted
returns-clause-accepted c = λ source is.
    c.in_ok-certified_longest.ensures.accepted source c.args.statement.now c.args.profile.now (c.in_ok-handler.ensures.is.loops source is)

pub returns-in_err-certified_longest-clause-carries : goal.returns-in_err-certified_longest-clause-carries
returns-in_err-certified_longest-clause-carries c =
    stop_carries c.args.said.now c.args.statement.now c.args.profile.now c.from_residual-in_err-certified_longest.result c.in_err-certified_longest.field-0.0 c.from_residual-in_err-certified_longest.ensures.1 c.in_err-certified_longest.ensures.alone
