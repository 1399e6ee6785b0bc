use Rattle.std.proofs.Common.{◌∙◌, ℕ, ap, inl, sym}
use Rattle.std.specs.Prelude.{unwrap_or}
use Rattle.handlers.specs.Refusal.{CarriesOneOf, stop_fault}
use Rattle.handlers.specs.Report.{BeforeOutput}
use Rattle.handlers.proofs.HandlerLemmas.{refused_as}
use Rattle.response_reports.specs.Question.{question_of, statements_of}
use Rattle.response_reports.specs.RespondReport.{IsRespondRefused}
use Rattle.response_reports.proofs.RespondLemmas.{later_carries, made, masked_too_long, reach_refused}
use Rattle.response_reports.proofs.RespondLemmas.{stretch_refused, sum_too_long, too_long}
use Rattle.response_reports.proofs.respond.response_of.Goals as goal

pub returns-in_err-reached-clause-fault : goal.returns-in_err-reached-clause-fault
returns-in_err-reached-clause-fault c =
    let q = question_of c.args.asked in
    let profile = c.args.profile.now in
    let s = c.in_err-reached.field-0.0 in
    refused_as c.from_residual.result s (λ s. BeforeOutput (IsRespondRefused q profile) (stop_fault s))
    c.from_residual.ensures.1
    (reach_refused q profile (stop_fault s) c.in_err-reached.ensures.fault)

pub returns-in_err-reached-clause-carries : goal.returns-in_err-reached-clause-carries
returns-in_err-reached-clause-carries c =
    let q = question_of c.args.asked in
    let s = c.in_err-reached.field-0.0 in
    refused_as c.from_residual.result s
    (CarriesOneOf q.source c.args.said.now (statements_of q) c.args.profile.now) c.from_residual.ensures.1
    (inl c.in_err-reached.ensures.carries)

pub returns-in_err-stretches-clause-fault : goal.returns-in_err-stretches-clause-fault
returns-in_err-stretches-clause-fault c =
    let q = question_of c.args.asked in
    let profile = c.args.profile.now in
    let s = c.in_err-stretches.field-0.0 in
    let reached = c.in_ok-reached.ensures.reached in
    refused_as c.from_residual-in_err-stretches.result s
    (λ s. BeforeOutput (IsRespondRefused q profile) (stop_fault s))
    c.from_residual-in_err-stretches.ensures.1
    (stretch_refused q profile reached.is (stop_fault s)
    (c.in_err-stretches.ensures.fault q.source c.requires))

pub returns-in_err-stretches-clause-carries : goal.returns-in_err-stretches-clause-carries
returns-in_err-stretches-clause-carries c =
    let q = question_of c.args.asked in
    let profile = c.args.profile.now in
    let s = c.in_err-stretches.field-0.0 in
    let reached = c.in_ok-reached.ensures.reached in
    refused_as c.from_residual-in_err-stretches.result s
    (CarriesOneOf q.source c.args.said.now (statements_of q) profile)
    c.from_residual-in_err-stretches.ensures.1
    (later_carries q profile c.args.said.now reached.is s
    (c.in_err-stretches.ensures.carries q.source c.requires))

pub returns-in_default-clause-fault : goal.returns-in_default-clause-fault
returns-in_default-clause-fault c =
    let q = question_of c.args.asked in
    let profile = c.args.profile.now in
    too_long q profile
    (masked_too_long q profile c.in_ok-reached.reached c.in_ok-reached.ensures.reached
    c.in_ok-stretches.stretches (c.in_ok-stretches.ensures.add_up q.source c.requires)
    c.in_default.ensures)

pub returns-in-None-clause-fault : goal.returns-in-None-clause-fault
returns-in-None-clause-fault c =
    let q = question_of c.args.asked in
    let profile = c.args.profile.now in
    let longest_is = sym (c.unwrap_or.ensures
    ∙ ap (λ (n : ℕ). unwrap_or q.longest n) (c.from-most.ensures ∙ c.longest_step.ensures.number)) in
    let are = made q profile c.in_ok-reached.reached c.in_ok-reached.ensures.reached c.in_ok-stretches.stretches
    (c.in_ok-stretches.ensures.add_up q.source c.requires) c.unwrap_or.result c.in-Some.masked longest_is
    (sym c.in-Some.ensures) in
    too_long q profile (sum_too_long q profile _ are c.in-None.ensures)

pub returns-in-Some-sum-clause-response : goal.returns-in-Some-sum-clause-response
returns-in-Some-sum-clause-response c =
    let q = question_of c.args.asked in
    let profile = c.args.profile.now in
    let longest_is = sym (c.unwrap_or.ensures
    ∙ ap (λ (n : ℕ). unwrap_or q.longest n) (c.from-most.ensures ∙ c.longest_step.ensures.number)) in
    record {
      are = made q profile c.in_ok-reached.reached c.in_ok-reached.ensures.reached c.in_ok-stretches.stretches
          (c.in_ok-stretches.ensures.add_up q.source c.requires) c.unwrap_or.result c.in-Some.masked longest_is
          (sym c.in-Some.ensures);
      ticks_are = c.in-Some-sum.ensures.0;
      small = c.in-Some-sum.ensures.1;
    }
