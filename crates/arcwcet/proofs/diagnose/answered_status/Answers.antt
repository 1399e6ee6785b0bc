use Rattle.std.proofs.Common.{subst, sym}
use Rattle.command_line.specs.Rows.{asked_of}
use Rattle.handlers.specs.FaultText.{TakesOrFails, fault_text, refusal_line}
use Rattle.handlers.specs.Refusal.{refusal_fault}
use Rattle.handlers.specs.declared.fault.ReportFault.{ReportFault}
use Rattle.arcwcet.proofs.RunLemmas.{says_line, says_lines}
use Rattle.arcwcet.proofs.diagnose.answered_status.Goals as goal

pub returns-then-not-shows_why-clause-says : goal.returns-then-not-shows_why-clause-says
returns-then-not-shows_why-clause-says g c =
    let line = subst (λ (f : ReportFault). TakesOrFails g.E.Output.taken g.E.Output.failures c.args.err.now c.report_status.new.err (refusal_line (fault_text f))) c.fault.ensures c.report_status.ensures.says in
    rw (c.in-Err.is)
    (says_line g.E.Output.taken g.E.Output.failures c.args.err.now c.report_status.new.err (asked_of c.args.job.request.now) (fault_text (refusal_fault c.in-Err.refusal)) line)

pub returns-clause-says : goal.returns-clause-says
returns-clause-says g c =
    let line = subst (λ (f : ReportFault). TakesOrFails g.E.Output.taken g.E.Output.failures c.args.err.now c.report_status-status.new.err (refusal_line (fault_text f))) c.fault-2.ensures c.report_status-status.ensures.says in
    rw (c.in-Err.is)
    (says_lines g.E.Output.taken g.E.Output.failures c.args.err.now c.print_reasons.new.err (asked_of c.args.job.request.now) (sym c.if-not-shows_why.ensures) (fault_text (refusal_fault c.in-Err.refusal))
    c.report_status-status.new.err line c.print_reasons.ensures)
