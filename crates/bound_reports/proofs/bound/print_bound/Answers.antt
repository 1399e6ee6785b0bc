use Rattle.std.proofs.Common.{[], ◌∷◌}
use Rattle.certificate.specs.Lines.{cert_text, said_of}
use Rattle.handlers.proofs.AnswerLemmas.{ends_failed, ends_with_text}
use Rattle.handlers.proofs.PricedLemmas.{by_profile}
use Rattle.handlers.proofs.RefusalLemmas.{ends_refused, profile_carries, carries_by}
use Rattle.handlers.proofs.ReportLemmas.{only_memory}
use Rattle.handlers.specs.Refusal.{fault_only}
use Rattle.handlers.specs.declared.fault.ReportFault.TheVariants.{Device}
use Rattle.handlers.specs.declared.refusal.Refusal.TheVariants.{Alone}
use Rattle.handlers.specs.Priced.{given}
use Rattle.bound_reports.proofs.bound.print_bound.Goals as goal
use Rattle.sources.specs.File.{file_of}

pub returns-in_err-found-clause-answers : goal.returns-in_err-found-clause-answers
returns-in_err-found-clause-answers g c =
    let profile = c.in_ok-profile.profile in
    let q = c.from_residual-in_err-found.result in
    by_profile profile c.in_ok-profile.ensures.is
    (ends_refused _ _ _ _ _ c.args.out.now q c.in_err-found.field-0.0 c.from_residual-in_err-found.ensures.1 c.in_err-found.ensures.fault
    (only_memory (file_of c.args.source) c.args.statement.now profile (fault_only q)))

pub returns-in_err-found-clause-carries : goal.returns-in_err-found-clause-carries
returns-in_err-found-clause-carries g c =
    profile_carries (given c.args.profile) (file_of c.args.source) (c.args.statement.now ∷ []) c.from_residual-in_err-found.result c.in_ok-profile.profile c.in_ok-profile.ensures.is
    c.in_err-found.field-0.0 c.from_residual-in_err-found.ensures.1 c.in_err-found.ensures.carries

pub returns-in-Ok-clause-answers : goal.returns-in-Ok-clause-answers
returns-in-Ok-clause-answers g c =
    by_profile c.in_ok-profile.profile c.in_ok-profile.ensures.is
    (ends_with_text _ _ _ _ _ c.args.out.now c.print_cert.new.out tt (cert_text (said_of c.in_ok-found.found)) c.in_ok-found.ensures.report c.in_ok-found.ensures.accepted c.in-Ok.ensures.ok)

pub returns-clause-answers : goal.returns-clause-answers
returns-clause-answers g c =
    by_profile c.in_ok-profile.profile c.in_ok-profile.ensures.is
    (ends_failed _ _ _ _ _ c.args.out.now c.print_cert.new.out tt (cert_text (said_of c.in_ok-found.found)) c.in_ok-found.ensures.report tt c.in-Err.ensures.front c.in-Err.ensures.failed)

pub returns-clause-carries : goal.returns-clause-carries
returns-clause-carries g c =
    carries_by (given c.args.profile) (file_of c.args.source) (c.args.statement.now ∷ []) c.in_ok-profile.profile c.in_ok-profile.ensures.is (Alone Device) tt
