use Rattle.handlers.specs.Refusal.{fault_only}
use Rattle.handlers.specs.Report.{IsAccepted, IsRefused}
use Rattle.justify_reports.specs.JustifyReport.{IsJustifyReport}
use Rattle.arcwcet.specs.Kept.{inputs_lent}
use Rattle.arcwcet.proofs.RunLemmas.{answered_judged}
use Rattle.arcwcet.proofs.reports.print_justified.Goals as goal

pub returns : goal.returns
returns g c =
    let i = inputs_lent c.args.inputs in
    answered_judged g.O.Output.taken g.O.Output.failures c.args.out.now c.justify_report.new.out i.profile (IsJustifyReport i.source i.second c.args.facts.now c.args.all) (IsAccepted i.source i.second) (IsRefused i.source i.second)
    (fault_only c.justify_report.result) c.justify_report.ensures.answers
