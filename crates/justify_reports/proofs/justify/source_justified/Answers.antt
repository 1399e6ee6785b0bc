use Rattle.handlers.specs.Report.{BeforeOutput, IsRefused}
use Rattle.handlers.proofs.HandlerLemmas.{refused_as}
use Rattle.handlers.proofs.RefusalLemmas.{stop_carries, stop_err}
use Rattle.handlers.proofs.ReportLemmas.{report_refusal}
use Rattle.handlers.specs.Refusal.{stop_fault}
use Rattle.justify_reports.proofs.justify.source_justified.Goals as goal
use Rattle.sources.specs.File.{file_of}

pub returns-in_err-handler-clause-fault : goal.returns-in_err-handler-clause-fault
returns-in_err-handler-clause-fault c =
    let j = c.args.justified in
    let s = c.in_err-handler.field-0.0 in
    refused_as c.from_residual.result s (λ s. BeforeOutput (IsRefused (file_of j.source) j.statement.now c.args.profile.now) (stop_fault s)) c.from_residual.ensures.1
    (report_refusal (file_of j.source) j.statement.now c.args.profile.now (stop_fault s) (c.in_err-handler.ensures.fault (file_of j.source) c.requires.said))

pub returns-in_err-handler_justified-clause-fault : goal.returns-in_err-handler_justified-clause-fault
returns-in_err-handler_justified-clause-fault c =
    let j = c.args.justified in
    stop_err c.from_residual-in_err-handler_justified.result c.in_err-handler_justified.field-0.0 (BeforeOutput (IsRefused (file_of j.source) j.statement.now c.args.profile.now)) c.from_residual-in_err-handler_justified.ensures.1
    c.in_err-handler_justified.ensures.fault

pub handler_justified-requires-clause-loops : goal.handler_justified-requires-clause-loops
handler_justified-requires-clause-loops c = c.in_ok-handler.ensures.is.loops (file_of c.args.justified.source) c.requires.said

pub returns-in_err-handler_justified-clause-carries : goal.returns-in_err-handler_justified-clause-carries
returns-in_err-handler_justified-clause-carries c =
    stop_carries c.args.said.now c.args.justified.statement.now c.args.profile.now c.from_residual-in_err-handler_justified.result c.in_err-handler_justified.field-0.0 c.from_residual-in_err-handler_justified.ensures.1 c.in_err-handler_justified.ensures.alone
