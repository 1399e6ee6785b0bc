use Rattle.std.proofs.Common.{◌∷◌, []}
use Rattle.handlers.proofs.HandlerLemmas.{source_refusal}
use Rattle.handlers.proofs.RefusalLemmas.{alone_err, told_err, told_ok, told_carries}
use Rattle.handlers.proofs.ReportLemmas.{report_refusal}
use Rattle.follow_reports.proofs.VisitedLemmas.{Refused, irq_refused}
use Rattle.follow_reports.proofs.follow_visits.read_run.Goals as goal
use Rattle.sources.specs.File.{file_of}

pub returns-clause-judged : goal.returns-clause-judged
returns-clause-judged c =
    told_ok c.in_ok-said.said c.source_run-judged.result c.with_source.result c.with_source.ensures _ c.source_run-judged.ensures.judged

pub returns-clause-carries : goal.returns-clause-carries
returns-clause-carries c =
    told_carries c.in_ok-said.said c.source_run-judged.result c.with_source.result c.with_source.ensures (file_of c.args.run.source) (c.args.run.statement.now ∷ c.args.run.fiq_statement.now ∷ []) c.args.profile.now c.in_ok-said.ensures.is
    c.source_run-judged.ensures.carries

pub returns-in_err-said-clause-fault : goal.returns-in_err-said-clause-fault
returns-in_err-said-clause-fault c =
    let r = c.args.run in
    let e = c.in_err-said.field-0.0 in
    alone_err c.from_residual.result e c.from_residual.ensures.1 (Refused (file_of r.source) r.statement.now r.fiq_statement.now r.machine.now c.args.profile.now)
    (irq_refused (file_of r.source) r.statement.now r.fiq_statement.now r.machine.now c.args.profile.now e (report_refusal (file_of r.source) r.statement.now c.args.profile.now e (source_refusal (file_of r.source) r.statement.now c.args.profile.now e c.in_err-said.ensures.fault)))

pub returns-clause-fault : goal.returns-clause-fault
returns-clause-fault c =
    let r = c.args.run in
    told_err c.in_ok-said.said c.source_run-judged.result c.with_source.result c.with_source.ensures (Refused (file_of r.source) r.statement.now r.fiq_statement.now r.machine.now c.args.profile.now) c.source_run-judged.ensures.fault
