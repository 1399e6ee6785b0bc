use Rattle.std.proofs.Common.{ℕ, List, Option, drop, map, option_map, subst}
use Rattle.text_explained.specs.declared.bursts.Bursts.{Bursts}
use Rattle.handlers.specs.Priced.{Priced}
use Rattle.handlers.specs.Refusal.{fault_only}
use Rattle.response_reports.specs.Question.{FiqQuestion, Question, fiq_question}
use Rattle.response_reports.specs.RespondReport.{Responds}
use Rattle.command_line.specs.Rows.{asked_of}
use Rattle.arcwcet.specs.Kept.{inputs_lent}
use Rattle.arcwcet.specs.Reports.{bursts_of, fiq_asked_in, fiq_files}
use Rattle.arcwcet.proofs.reports.print_response.Goals as goal

pub returns : goal.returns
returns g c =
    let i = inputs_lent c.args.job.inputs in
    let asked = asked_of c.args.job.request.now in
    let n = c.args.job.request.now.numbers in
    let old = c.args.out.now in
    let new = c.respond_report.new.out in
    let answer = fault_only c.respond_report.result in
    let question : List ℕ → Bursts → List (List ℕ) → Option FiqQuestion → Question = λ label bursts masked fiq. record {
      source = i.source;
      statement = i.second;
      label = label;
      longest = n.longest;
      masked = n.masked;
      masked_by = masked;
      bursts = bursts;
      fiq = fiq;
      within = n.within;
    } in
    let by = λ (label : List ℕ) (bursts : Bursts) (masked : List (List ℕ)) (fiq : Option FiqQuestion). Priced i.profile (λ p. Responds (question label bursts masked fiq) p g.O.Output.taken g.O.Output.failures old new answer) old new answer in
    let masked_lent = map (λ v. v.items) c.masked_by.result.now in
    let fiq_lent = option_map fiq_question c.fiq_asked.result in
    subst (λ (label : List ℕ). by label (bursts_of n) (drop (fiq_files asked) i.rest) (fiq_asked_in asked i)) c.as_bytes.ensures.value
    (subst (λ (bursts : Bursts). by c.as_bytes.result.now bursts (drop (fiq_files asked) i.rest) (fiq_asked_in asked i)) c.bursts_of.ensures
    (subst (λ (masked : List (List ℕ)). by c.as_bytes.result.now c.bursts_of.result masked (fiq_asked_in asked i)) c.masked_by.ensures
    (subst (λ (fiq : Option FiqQuestion). by c.as_bytes.result.now c.bursts_of.result masked_lent fiq) c.fiq_asked.ensures c.respond_report.ensures.answers)))
