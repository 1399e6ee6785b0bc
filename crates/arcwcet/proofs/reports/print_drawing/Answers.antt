use Rattle.std.proofs.Common.{subst}
use Rattle.text_graph.specs.declared.extent.Extent.{Extent}
use Rattle.handlers.specs.Priced.{Priced}
use Rattle.explain_reports.specs.GraphReport.{Draws, IsGraphReport}
use Rattle.handlers.specs.Refusal.{fault_only}
use Rattle.handlers.specs.Report.{IsAccepted, IsRefused}
use Rattle.arcwcet.specs.Kept.{inputs_lent}
use Rattle.arcwcet.specs.Reports.{extent_of}
use Rattle.arcwcet.proofs.RunLemmas.{answered_yes}
use Rattle.arcwcet.proofs.reports.print_drawing.Goals as goal

pub returns : goal.returns
returns g c =
    let i = inputs_lent c.args.inputs in
    let old = c.args.out.now in
    let new = c.graph_report.new.out in
    let answer = fault_only c.graph_report.result in
    let draws = subst (λ (x : Extent). Priced i.profile (λ p. Draws g.O.Output.taken g.O.Output.failures i.source i.second x p old new answer) old new answer)
    c.extent_of.ensures c.graph_report.ensures.answers in
    answered_yes g.O.Output.taken g.O.Output.failures old new i.profile (IsGraphReport i.source i.second (extent_of c.args.path)) (IsAccepted i.source i.second) (IsRefused i.source i.second)
    answer draws (fault_only c.answered.result) c.answered.ensures
