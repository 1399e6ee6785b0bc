use Rattle.std.proofs.Common.{Some, ◌∷◌, []}
use Rattle.std.proofs.lemmas.Result.{IfErr-weaker}
use Rattle.handlers.specs.FiqHandler.{IsFiqsRefused}
use Rattle.handlers.specs.Refusal.{CarriesReadOf, fault_only, refusal_fault, stop_fault}
use Rattle.handlers.specs.Report.{BeforeOutput}
use Rattle.handlers.proofs.ApartLemmas.{apart_refusal, on_any}
use Rattle.handlers.proofs.HandlerLemmas.{refused_as}
use Rattle.handlers.proofs.RefusalLemmas.{only_err, told_err, told_of, told_ok, told_on}
use Rattle.bound_reports.proofs.visits.own_report.Goals as goal
use Rattle.sources.specs.File.{file_of}

pub returns-in_err-read-clause-fault : goal.returns-in_err-read-clause-fault
returns-in_err-read-clause-fault c = λ source is.
    let e = c.in_err-read.field-0.0 in
    refused_as (fault_only c.from_residual.result) (refusal_fault e) (BeforeOutput (IsFiqsRefused source (Some (file_of c.args.own)) c.args.statement.now c.args.profile.now))
    (only_err c.from_residual.result e c.from_residual.ensures.1) (c.in_err-read.ensures.fault source c.args.statement.now c.args.profile.now is)

pub returns-in_err-read-clause-carries : goal.returns-in_err-read-clause-carries
returns-in_err-read-clause-carries c =
    refused_as c.from_residual.result c.in_err-read.field-0.0 (CarriesReadOf (((file_of c.args.own), c.args.statement.now) ∷ []) c.args.profile.now) c.from_residual.ensures.1
    (c.in_err-read.ensures.carries c.args.statement.now c.args.profile.now)

pub returns-clause-apart : goal.returns-clause-apart
returns-clause-apart c = λ source is.
    told_on c.in_ok-read.read c.fiq_report-report.result c.with_source.result c.with_source.ensures _ (on_any c.fiq_report-report.result _ (c.in_ok-read.ensures.apart source is))

pub returns-clause-report : goal.returns-clause-report
returns-clause-report c =
    told_ok c.in_ok-read.read c.fiq_report-report.result c.with_source.result c.with_source.ensures _ (c.fiq_report-report.ensures.report (file_of c.args.own) c.in_ok-read.ensures.is.said)

pub returns-clause-fault : goal.returns-clause-fault
returns-clause-fault c = λ source is.
    told_err c.in_ok-read.read c.fiq_report-report.result c.with_source.result c.with_source.ensures _
    (IfErr-weaker c.fiq_report-report.result _ _
    (λ s h. apart_refusal source (file_of c.args.own) c.args.statement.now c.args.profile.now (c.in_ok-read.ensures.apart source is) (stop_fault s) h)
    (c.fiq_report-report.ensures.fault (file_of c.args.own) c.in_ok-read.ensures.is.said))

pub returns-clause-carries : goal.returns-clause-carries
returns-clause-carries c =
    told_of c.args.profile.now c.in_ok-read.read c.fiq_report-report.result c.with_source.result c.with_source.ensures (file_of c.args.own) c.args.statement.now c.in_ok-read.ensures.is c.fiq_report-report.ensures.carries
