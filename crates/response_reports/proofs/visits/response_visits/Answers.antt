use Rattle.std.proofs.Common.{◌≡◌, ◌⊎◌, Option, Some, inl, inr, option_map, refl, subst, sym}
use Rattle.numbered_walks.specs.declared.fault.WalkFault.TheVariants.{BoundTooLarge}
use Rattle.handlers.specs.Refusal.{CarriesReadOf, refusal_fault}
use Rattle.handlers.specs.Report.{BeforeOutput}
use Rattle.handlers.specs.VisitStops.{refusal_on}
use Rattle.handlers.specs.declared.apart.VisitStop.{VisitStop}
use Rattle.handlers.specs.declared.apart.VisitStop.TheVariants.{OnRead}
use Rattle.handlers.specs.declared.fault.ReportFault.{ReportFault}
use Rattle.handlers.specs.declared.fault.ReportFault.TheVariants.{Walk}
use Rattle.handlers.specs.declared.refusal.Stop.TheVariants.{Alone}
use Rattle.handlers.proofs.HandlerLemmas.{refused_as}
use Rattle.response_reports.specs.Question.{fiq_part, fiq_question}
use Rattle.response_reports.specs.RespondWork.{AreTimedFor, AreVisitsRefused}
use Rattle.response_reports.specs.declared.asked.AskedFiq.{AskedFiq}
use Rattle.response_reports.proofs.VisitsLemmas.{timed_for, visited_too_long, visitor_refused}
use Rattle.response_reports.proofs.visits.response_visits.Goals as goal

pub returns-in_err-bound-clause-fault : goal.returns-in_err-bound-clause-fault
returns-in_err-bound-clause-fault c = λ source is.
    let profile = c.args.profile.now in
    let p = c.args.response.parts in
    let v = c.in_err-bound.field-0.0 in
    let e = refusal_fault (refusal_on c.args.said.now v) in
    refused_as c.from_residual.result v (λ s. BeforeOutput (AreVisitsRefused profile p source (option_map fiq_question c.args.fiq)) (refusal_fault (refusal_on c.args.said.now s))) c.from_residual.ensures.1
    (subst (λ (o : Option AskedFiq). BeforeOutput (AreVisitsRefused profile p source (option_map fiq_question o)) e) (sym c.in-Some.is)
    (visitor_refused profile p source (fiq_question c.in-Some.asked) e (c.in_err-bound.ensures.fault source is)))

pub returns-in_err-bound-clause-carries : goal.returns-in_err-bound-clause-carries
returns-in_err-bound-clause-carries c = λ source is.
    let profile = c.args.profile.now in
    let v = c.in_err-bound.field-0.0 in
    refused_as c.from_residual.result v
    (λ s. (s ≡ OnRead (Alone (Walk BoundTooLarge))) ⊎ CarriesReadOf (fiq_part source (option_map fiq_question c.args.fiq)) profile (refusal_on c.args.said.now s)) c.from_residual.ensures.1
    (inr (subst (λ (o : Option AskedFiq). CarriesReadOf (fiq_part source (option_map fiq_question o)) profile (refusal_on c.args.said.now v)) (sym c.in-Some.is) (c.in_err-bound.ensures.carries source is)))

pub returns-in_err-timed_visits-clause-fault : goal.returns-in_err-timed_visits-clause-fault
returns-in_err-timed_visits-clause-fault c = λ source is.
    let profile = c.args.profile.now in
    let p = c.args.response.parts in
    let e = c.in_err-timed_visits.field-0.0 in
    refused_as c.from_residual-in_err-timed_visits.result (OnRead (Alone e))
    (λ s. BeforeOutput (AreVisitsRefused profile p source (option_map fiq_question c.args.fiq)) (refusal_fault (refusal_on c.args.said.now s))) c.from_residual-in_err-timed_visits.ensures.1
    (subst (λ (o : Option AskedFiq). BeforeOutput (AreVisitsRefused profile p source (option_map fiq_question o)) e) (sym c.in-Some.is)
    (visited_too_long profile p source (fiq_question c.in-Some.asked) c.in_ok-bound.bound (c.in_ok-bound.ensures.apart source is) (c.in_ok-bound.ensures.bound source is) e c.in_err-timed_visits.ensures.fault))

pub returns-in_err-timed_visits-clause-carries : goal.returns-in_err-timed_visits-clause-carries
returns-in_err-timed_visits-clause-carries c = λ source is.
    let profile = c.args.profile.now in
    let e = c.in_err-timed_visits.field-0.0 in
    refused_as c.from_residual-in_err-timed_visits.result (OnRead (Alone e))
    (λ s. (s ≡ OnRead (Alone (Walk BoundTooLarge))) ⊎ CarriesReadOf (fiq_part source (option_map fiq_question c.args.fiq)) profile (refusal_on c.args.said.now s)) c.from_residual-in_err-timed_visits.ensures.1
    (inl (λ i. OnRead (Alone (c.in_err-timed_visits.ensures.fault.0 i))))

pub returns-clause-timed : goal.returns-clause-timed
returns-clause-timed c = λ source is.
    let profile = c.args.profile.now in
    let p = c.args.response.parts in
    let t = c.in_ok-timed_visits.field-0 in
    subst (λ (o : Option AskedFiq). AreTimedFor profile p source (option_map fiq_question o) (Some t)) (sym c.in-Some.is)
    (timed_for profile p source (fiq_question c.in-Some.asked) c.in_ok-bound.bound (c.in_ok-bound.ensures.apart source is) (c.in_ok-bound.ensures.bound source is) t c.in_ok-timed_visits.ensures.timed)
