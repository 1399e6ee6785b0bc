use Rattle.std.proofs.Common.{Bool, List, ℕ, Result, subst, sym}
use Rattle.command_line.specs.Rows.{asked_of}
use Rattle.handlers.specs.Priced.{Priced}
use Rattle.handlers.specs.declared.fault.ReportFault.{ReportFault}
use Rattle.machine_reports.specs.RunTo.{ReportsRunTo}
use Rattle.arcwcet.specs.Kept.{inputs_lent}
use Rattle.arcwcet.proofs.reports.print_run_to.Goals as goal

pub returns : goal.returns
returns g c =
    let i = inputs_lent c.args.job.inputs in
    let old = c.args.out.now in
    let new = c.run_to_report.new.out in
    let by = λ (word : List ℕ) (answer : Result Bool ReportFault). Priced i.profile (λ p. ReportsRunTo g.F.Front.shows g.F.Front.ends g.O.Output.taken g.O.Output.failures i.source i.second word p old new answer) old new answer in
    subst (by (asked_of c.args.job.request.now).word) (sym c.alone.ensures)
    (subst (λ (word : List ℕ). by word c.run_to_report.result) c.as_bytes.ensures.value c.run_to_report.ensures)
