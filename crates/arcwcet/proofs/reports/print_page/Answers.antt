use Rattle.std.proofs.Common.{subst}
use Rattle.text_graph.specs.declared.extent.Extent.{Extent}
use Rattle.handlers.specs.Priced.{Priced}
use Rattle.explain_reports.specs.PageReport.{IsPageReport, ShowsPage}
use Rattle.handlers.specs.Refusal.{fault_only}
use Rattle.handlers.specs.Report.{IsAccepted, IsRefused}
use Rattle.arcwcet.specs.Kept.{inputs_lent}
use Rattle.arcwcet.specs.Reports.{extent_of}
use Rattle.arcwcet.proofs.RunLemmas.{answered_yes}
use Rattle.arcwcet.proofs.reports.print_page.Goals as goal

pub returns : goal.returns
returns g c =
    let i = inputs_lent c.args.inputs in
    let old = c.args.out.now in
    let new = c.page_report.new.out in
    let answer = fault_only c.page_report.result in
    let draws = subst (λ (x : Extent). Priced i.profile (λ p. ShowsPage g.O.Output.taken g.O.Output.failures i.source i.second x p old new answer) old new answer)
    c.extent_of.ensures c.page_report.ensures.answers in
    answered_yes g.O.Output.taken g.O.Output.failures old new i.profile (IsPageReport i.source i.second (extent_of c.args.path)) (IsAccepted i.source i.second) (IsRefused i.source i.second)
    answer draws (fault_only c.answered.result) c.answered.ensures
