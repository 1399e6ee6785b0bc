use Rattle.std.proofs.Common.{Option, option_map, subst}
use Rattle.sources.specs.File.{File, file_of}
use Rattle.handlers.specs.Priced.{Priced}
use Rattle.handlers.specs.Refusal.{fault_only}
use Rattle.bound_reports.specs.VisitsReport.{ReportsVisits}
use Rattle.bound_reports.specs.declared.visit_rate.VisitRate.{VisitRate}
use Rattle.arcwcet.specs.Kept.{inputs_lent}
use Rattle.arcwcet.specs.Reports.{rate_of}
use Rattle.arcwcet.proofs.reports.print_visited.Goals as goal

pub returns : goal.returns
returns g c =
    let i = inputs_lent c.args.inputs in
    let old = c.args.out.now in
    let new = c.visits_report.new.out in
    let answer = fault_only c.visits_report.result in
    let by = λ (own : Option File) (rate : VisitRate). Priced i.profile (λ p. ReportsVisits g.O.Output.taken g.O.Output.failures i.source own i.second i.third rate p old new answer) old new answer in
    subst (λ (own : Option File). by own (rate_of c.args.numbers)) c.fiq_source.ensures
    (subst (λ (rate : VisitRate). by (option_map file_of c.fiq_source.result) rate) c.rate_of.ensures c.visits_report.ensures.answers)
