use Rattle.std.proofs.Common.{◌⊎◌, inl}
use Rattle.handlers.specs.Refusal.{stop_fault}
use Rattle.handlers.specs.Report.{IsHandlerRefused}
use Rattle.handlers.proofs.HandlerLemmas.{refused_as}
use Rattle.handlers.proofs.RefusalLemmas.{stop_carries, stop_err}
use Rattle.response_reports.specs.Question.{question_of}
use Rattle.response_reports.specs.RespondReport.{IsAimRefused}
use Rattle.response_reports.proofs.RespondLemmas.{aim_or_memory}
use Rattle.response_reports.proofs.reaching.reached_by.Goals as goal
use Rattle.sources.specs.File.{file_of}

pub returns-in_err-handler-clause-fault : goal.returns-in_err-handler-clause-fault
returns-in_err-handler-clause-fault c =
    let q = question_of c.args.asked in
    let profile = c.args.profile.now in
    let s = c.in_err-handler.field-0.0 in
    refused_as c.from_residual.result s (λ s. IsHandlerRefused q.source q.statement profile (stop_fault s) ⊎ IsAimRefused q profile (stop_fault s)) c.from_residual.ensures.1
    (inl (c.in_err-handler.ensures.fault q.source c.requires))

pub returns-in_err-reached_on-clause-fault : goal.returns-in_err-reached_on-clause-fault
returns-in_err-reached_on-clause-fault c =
    let q = question_of c.args.asked in
    let profile = c.args.profile.now in
    let e = c.in_err-reached_on.field-0.0 in
    stop_err c.from_residual-in_err-reached_on.result e (λ e. IsHandlerRefused q.source q.statement profile e ⊎ IsAimRefused q profile e) c.from_residual-in_err-reached_on.ensures.1
    (aim_or_memory q profile e (c.in_err-reached_on.ensures.fault profile (c.in_ok-handler.ensures.is.loops q.source c.requires)))

pub returns-in_err-reached_on-clause-carries : goal.returns-in_err-reached_on-clause-carries
returns-in_err-reached_on-clause-carries c =
    stop_carries c.args.said.now c.args.asked.statement.now c.args.profile.now c.from_residual-in_err-reached_on.result c.in_err-reached_on.field-0.0 c.from_residual-in_err-reached_on.ensures.1 c.in_err-reached_on.ensures.alone

pub returns-clause-reached : goal.returns-clause-reached
returns-clause-reached c =
    c.in_ok-reached_on.ensures.reached c.args.profile.now (c.in_ok-handler.ensures.is.loops (file_of c.args.asked.source) c.requires)
