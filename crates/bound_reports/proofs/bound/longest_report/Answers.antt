use Rattle.std.proofs.Common.{List, ℕ, subst, sym}
use Rattle.handlers.specs.Report.{BeforeOutput, IsBoundReport, IsRefused}
use Rattle.handlers.proofs.HandlerLemmas.{refused_as}
use Rattle.bound_reports.proofs.bound.longest_report.Goals as goal

pub returns-in_err-found-clause-fault : goal.returns-in_err-found-clause-fault
returns-in_err-found-clause-fault c = λ source statement profile loops.
    refused_as c.from_residual.result c.in_err-found.field-0.0 (BeforeOutput (IsRefused source statement profile)) c.from_residual.ensures.1
    (c.in_err-found.ensures.fault source statement profile loops)

pub returns-clause-report : goal.returns-clause-report
returns-clause-report c = λ source statement profile loops.
    subst (λ (text : List ℕ). IsBoundReport source statement profile c.args.handler.now.statement c.in_ok-found.found.bound text)
    (sym c.in_ok-text.ensures.text) (c.in_ok-found.ensures.report source statement profile loops)
