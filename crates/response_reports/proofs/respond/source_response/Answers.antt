use Rattle.std.proofs.Common.{◌≡◌, ⊎_elim, inl, sym, subst}
use Rattle.numbered_walks.specs.declared.fault.WalkFault.TheVariants.{BoundTooLarge}
use Rattle.handlers.specs.Refusal.{CarriesReadOf, refusal_fault}
use Rattle.handlers.specs.Report.{BeforeOutput}
use Rattle.handlers.specs.VisitStops.{refusal_on}
use Rattle.handlers.specs.declared.apart.VisitStop.{VisitStop}
use Rattle.handlers.specs.declared.apart.VisitStop.TheVariants.{OnRead}
use Rattle.handlers.proofs.HandlerLemmas.{refused_as}
use Rattle.response_reports.specs.Question.{fiq_part, parts_asked, question_of, statements_of}
use Rattle.response_reports.specs.RespondReport.{IsRespondRefused}
use Rattle.response_reports.proofs.HeldBackLemmas.{one_of_all}
use Rattle.response_reports.proofs.RespondLemmas.{found_behind, reported, times_are, visits_stop}
use Rattle.response_reports.proofs.respond.source_response.Goals as goal

pub returns-in_err-response-clause-fault : goal.returns-in_err-response-clause-fault
returns-in_err-response-clause-fault c =
    refused_as c.from_residual.result (OnRead c.in_err-response.field-0.0)
    (λ v. BeforeOutput (IsRespondRefused (question_of c.args.asked) c.args.profile.now) (refusal_fault (refusal_on c.args.said.now v))) c.from_residual.ensures.1 c.in_err-response.ensures.fault

pub returns-in_err-response-clause-carries : goal.returns-in_err-response-clause-carries
returns-in_err-response-clause-carries c = λ is.
    let q = question_of c.args.asked in
    let s = c.in_err-response.field-0.0 in
    refused_as c.from_residual.result (OnRead s) (λ v. CarriesReadOf (parts_asked q) c.args.profile.now (refusal_on c.args.said.now v)) c.from_residual.ensures.1
    (one_of_all q.source c.args.profile.now (fiq_part q.source q.fiq) c.args.said.now is (statements_of q) s c.in_err-response.ensures.carries)

pub returns-in_err-visits-clause-fault : goal.returns-in_err-visits-clause-fault
returns-in_err-visits-clause-fault c =
    let q = question_of c.args.asked in
    let profile = c.args.profile.now in
    let v = c.in_err-visits.field-0.0 in
    refused_as c.from_residual-in_err-visits.result v (λ v. BeforeOutput (IsRespondRefused q profile) (refusal_fault (refusal_on c.args.said.now v))) c.from_residual-in_err-visits.ensures.1
    (visits_stop q profile c.in_ok-response.response c.in_ok-response.ensures.response (refusal_fault (refusal_on c.args.said.now v)) (c.in_err-visits.ensures.fault q.source c.requires))

pub returns-in_err-visits-clause-carries : goal.returns-in_err-visits-clause-carries
returns-in_err-visits-clause-carries c = λ is.
    let q = question_of c.args.asked in
    let profile = c.args.profile.now in
    let v = c.in_err-visits.field-0.0 in
    refused_as c.from_residual-in_err-visits.result v (λ v. CarriesReadOf (parts_asked q) profile (refusal_on c.args.said.now v)) c.from_residual-in_err-visits.ensures.1
    (⊎_elim
    (λ alone. subst (λ (v : VisitStop). CarriesReadOf (parts_asked q) profile (refusal_on c.args.said.now v)) (sym alone) (inl (is, tt)))
    (λ found. found_behind q profile c.in_ok-response.response c.in_ok-response.ensures.response (refusal_on c.args.said.now v) found)
    (c.in_err-visits.ensures.carries q.source is))

pub response_answer-requires-clause-timed : goal.response_answer-requires-clause-timed
response_answer-requires-clause-timed c =
    let q = question_of c.args.asked in
    times_are q c.args.profile.now c.in_ok-response.response c.in_ok-response.ensures.response q.fiq c.in_ok-visits.visits (c.in_ok-visits.ensures.timed q.source c.requires)

pub returns-clause-report : goal.returns-clause-report
returns-clause-report c =
    let q = question_of c.args.asked in
    let answer = c.in_ok-response_answer.field-0 in
    reported q c.args.profile.now c.in_ok-response.response c.in_ok-response.ensures.response c.response_law.ensures.sum c.response_law.ensures.longest c.visited_response_law.ensures.sum
    c.in_ok-visits.visits (c.in_ok-visits.ensures.timed q.source c.requires) answer.within answer.text.items c.in_ok-response_answer.ensures
