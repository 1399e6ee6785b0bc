use Rattle.std.proofs.Common.{option_map, subst, sym}
use Rattle.handlers.proofs.PricedLemmas.{by_profile}
use Rattle.handlers.proofs.RefusalLemmas.{device_by, ends_refused, ends_told, refused_by}
use Rattle.handlers.specs.Refusal.{CarriesReadOf, fault_only}
use Rattle.response_reports.specs.Question.{parts_asked, question_of}
use Rattle.response_reports.specs.RespondReport.{IsRespondReport}
use Rattle.response_reports.proofs.RespondLemmas.{answerable, device_refused, only_memory_or_device}
use Rattle.response_reports.proofs.respond.respond_report.Goals as goal

pub returns-in_err-answer-clause-answers : goal.returns-in_err-answer-clause-answers
returns-in_err-answer-clause-answers g c =
    let profile = c.in_ok-profile.profile in
    let r = c.from_residual-in_err-answer.result in
    by_profile profile c.in_ok-profile.ensures.is
    (ends_refused _ _ _ _ _ c.args.out.now r c.in_err-answer.field-0.0 c.from_residual-in_err-answer.ensures.1 c.in_err-answer.ensures.fault
    (only_memory_or_device (question_of c.args.asked) profile (fault_only r)))

pub returns-in_err-answer-clause-carries : goal.returns-in_err-answer-clause-carries
returns-in_err-answer-clause-carries g c =
    refused_by (option_map (λ f. f.now) c.args.profile) (CarriesReadOf (parts_asked (question_of c.args.asked))) c.from_residual-in_err-answer.result c.in_ok-profile.profile c.in_ok-profile.ensures.is
    c.in_err-answer.field-0.0 c.from_residual-in_err-answer.ensures.1 c.in_err-answer.ensures.carries

pub returns-clause-answers : goal.returns-clause-answers
returns-clause-answers g c =
    let q = question_of c.args.asked in
    let profile = c.in_ok-profile.profile in
    let within = c.in_ok-answer.answer.within in
    let report = subst (IsRespondReport q profile within) (sym c.deref.ensures.value) c.in_ok-answer.ensures.report in
    by_profile profile c.in_ok-profile.ensures.is
    (ends_told _ _ _ _ _ c.args.out.now c.print_or_refuse.new.out within c.deref.result.now c.print_or_refuse.result
    report (answerable q profile within c.deref.result.now report) (device_refused q profile) c.print_or_refuse.ensures.printed c.print_or_refuse.ensures.device)

pub returns-clause-carries : goal.returns-clause-carries
returns-clause-carries g c =
    device_by (option_map (λ f. f.now) c.args.profile) (CarriesReadOf (parts_asked (question_of c.args.asked))) c.print_or_refuse.result c.in_ok-profile.profile c.in_ok-profile.ensures.is _ tt c.print_or_refuse.ensures.device
