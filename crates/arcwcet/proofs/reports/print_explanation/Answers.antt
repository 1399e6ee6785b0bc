use Rattle.std.proofs.Common.{subst}
use Rattle.text_explained.specs.declared.bursts.Bursts.{Bursts}
use Rattle.handlers.specs.Priced.{Priced}
use Rattle.handlers.specs.Refusal.{fault_only}
use Rattle.explain_reports.specs.ExplainReport.{Explains}
use Rattle.explain_reports.specs.declared.explain.TableForm.{TableForm}
use Rattle.arcwcet.specs.Kept.{inputs_lent}
use Rattle.arcwcet.specs.Reports.{bursts_of}
use Rattle.arcwcet.proofs.reports.print_explanation.Goals as goal

pub returns : goal.returns
returns g c =
    let i = inputs_lent c.args.job.inputs in
    let q = c.args.job.request.now in
    let old = c.args.out.now in
    let new = c.explain_report.new.out in
    let answer = fault_only c.explain_report.result in
    let by = λ (bursts : Bursts) (form : TableForm).
    Priced i.profile (λ p. Explains g.O.Output.taken g.O.Output.failures i.source i.second q.numbers.at_most bursts form q.each p old new answer) old new answer in
    subst (λ (form : TableForm). by (bursts_of q.numbers) form) c.form_of.ensures
    (subst (λ (bursts : Bursts). by bursts c.form_of.result) c.bursts_of.ensures c.explain_report.ensures.answers)
