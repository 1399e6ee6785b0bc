use Rattle.handlers.specs.Refusal.{CarriesReadOf, refusal_fault}
use Rattle.handlers.specs.Report.{BeforeOutput}
use Rattle.handlers.proofs.ApartLemmas.{fault_of, placed_err, placed_ok}
use Rattle.response_reports.specs.Question.{parts_asked, question_of}
use Rattle.response_reports.specs.RespondReport.{IsRespondRefused}
use Rattle.response_reports.proofs.respond.read_response.Goals as goal

pub returns-clause-report : goal.returns-clause-report
returns-clause-report c =
    placed_ok c.in_ok-said.said c.source_response-answer.result c.refused_on.result c.refused_on.ensures _ c.source_response-answer.ensures.report

pub returns-clause-carries : goal.returns-clause-carries
returns-clause-carries c =
    placed_err c.in_ok-said.said c.source_response-answer.result c.refused_on.result c.refused_on.ensures
    (CarriesReadOf (parts_asked (question_of c.args.asked)) c.args.profile.now)
    (c.source_response-answer.ensures.carries c.in_ok-said.ensures.is)

pub returns-clause-fault : goal.returns-clause-fault
returns-clause-fault c =
    let refused = BeforeOutput (IsRespondRefused (question_of c.args.asked) c.args.profile.now) in
    fault_of c.refused_on.result refused
    (placed_err c.in_ok-said.said c.source_response-answer.result c.refused_on.result c.refused_on.ensures (λ e. refused (refusal_fault e))
    c.source_response-answer.ensures.fault)
