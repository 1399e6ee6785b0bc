use Rattle.std.proofs.Common.{Bool, true, false, Result, subst, sym}
use Rattle.handlers.specs.Refusal.{fault_only}
use Rattle.handlers.specs.Priced.{Priced}
use Rattle.handlers.specs.declared.fault.ReportFault.{ReportFault}
use Rattle.machine_reports.specs.Machine.{ReportsRun}
use Rattle.arcwcet.specs.Kept.{inputs_lent}
use Rattle.arcwcet.specs.Reports.{trace_end, trace_shows}
use Rattle.arcwcet.proofs.reports.print_trace.Goals as goal

pub returns-then-job : goal.returns-then-job
returns-then-job g c =
    let i = inputs_lent c.args.job.inputs in
    let old = c.args.out.now in
    let new = c.machine_report.new.out in
    let by = λ (json : Bool) (answer : Result Bool ReportFault). Priced i.profile (λ p. ReportsRun (trace_shows json) (trace_end json) g.O.Output.taken g.O.Output.failures i.source i.second p old new answer) old new answer in
    subst (λ (json : Bool). by json (fault_only c.alone.result)) (sym c.if-job.true)
    (subst (by true) (sym c.alone.ensures) c.machine_report.ensures)

pub returns : goal.returns
returns g c =
    let i = inputs_lent c.args.job.inputs in
    let old = c.args.out.now in
    let new = c.machine_report-2.new.out in
    let by = λ (json : Bool) (answer : Result Bool ReportFault). Priced i.profile (λ p. ReportsRun (trace_shows json) (trace_end json) g.O.Output.taken g.O.Output.failures i.source i.second p old new answer) old new answer in
    subst (λ (json : Bool). by json (fault_only c.alone-2.result)) (sym c.if-job.false)
    (subst (by false) (sym c.alone-2.ensures) c.machine_report-2.ensures)
