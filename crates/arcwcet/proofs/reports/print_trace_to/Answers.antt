use Rattle.std.proofs.Common.{Bool, subst, sym}
use Rattle.command_line.specs.Rows.{asked_of}
use Rattle.handlers.specs.Priced.{Priced}
use Rattle.handlers.specs.Refusal.{fault_only}
use Rattle.machine_reports.specs.RunTo.{ReportsRunTo}
use Rattle.arcwcet.specs.Kept.{inputs_lent}
use Rattle.arcwcet.specs.Reports.{trace_end, trace_shows}
use Rattle.arcwcet.proofs.reports.print_trace_to.Goals as goal

pub returns-then-job : goal.returns-then-job
returns-then-job g c =
    let i = inputs_lent c.args.job.inputs in
    let word = (asked_of c.args.job.request.now).word in
    let answer = fault_only c.print_run_to.result in
    let new = c.print_run_to.new.out in
    subst (λ (json : Bool). Priced i.profile (λ p. ReportsRunTo (trace_shows json) (trace_end json) g.O.Output.taken g.O.Output.failures i.source i.second word p c.args.out.now new answer) c.args.out.now new answer)
    (sym c.if-job.true) c.print_run_to.ensures

pub returns : goal.returns
returns g c =
    let i = inputs_lent c.args.job.inputs in
    let word = (asked_of c.args.job.request.now).word in
    let answer = fault_only c.print_run_to-2.result in
    let new = c.print_run_to-2.new.out in
    subst (λ (json : Bool). Priced i.profile (λ p. ReportsRunTo (trace_shows json) (trace_end json) g.O.Output.taken g.O.Output.failures i.source i.second word p c.args.out.now new answer) c.args.out.now new answer)
    (sym c.if-job.false) c.print_run_to-2.ensures
