use Rattle.std.proofs.Common.{◌∙◌, ◌∷◌, [], refl}
use Rattle.cert_check.specs.Failing.{verdict_of}
use Rattle.handlers.specs.declared.fault.ReportFault.TheVariants.{Memory}
use Rattle.handlers.specs.declared.refusal.Refusal.TheVariants.{Alone}
use Rattle.handlers.proofs.PricedLemmas.{by_profile}
use Rattle.handlers.proofs.RefusalLemmas.{device_carries, ends_told, profile_carries}
use Rattle.handlers.specs.Priced.{given}
use Rattle.explain_reports.proofs.CheckLemmas.{checkable, ends_unfound}
use Rattle.explain_reports.proofs.VerdictLemmas.{explained}
use Rattle.explain_reports.proofs.verdict.verdict_report.Goals as goal
use Rattle.sources.specs.File.{file_of}

pub returns-in_err-row-clause-answers : goal.returns-in_err-row-clause-answers
returns-in_err-row-clause-answers g c =
    by_profile c.in_ok-profile.profile c.in_ok-profile.ensures.is
    (ends_unfound _ _ _ _ _ c.args.out.now c.from_residual-in_err-row.result c.in_err-row.field-0.0 c.from_residual-in_err-row.ensures.1 c.in_err-row.ensures.fault
    c.in_err-row.ensures.only)

pub returns-in_err-row-clause-carries : goal.returns-in_err-row-clause-carries
returns-in_err-row-clause-carries g c =
    profile_carries (given c.args.profile) (file_of c.args.inputs.source) (c.args.inputs.statement.now ∷ []) c.from_residual-in_err-row.result c.in_ok-profile.profile c.in_ok-profile.ensures.is
    c.in_err-row.field-0.0 c.from_residual-in_err-row.ensures.1 c.in_err-row.ensures.carries

pub returns-in_err-text-clause-answers : goal.returns-in_err-text-clause-answers
returns-in_err-text-clause-answers g c =
    by_profile c.in_ok-profile.profile c.in_ok-profile.ensures.is
    (ends_unfound _ _ _ _ _ c.args.out.now c.from_residual-in_err-text.result (Alone Memory) c.from_residual-in_err-text.ensures.1 (λ e. cc e, tt)
    (λ a. refl))

pub returns-in_err-text-clause-carries : goal.returns-in_err-text-clause-carries
returns-in_err-text-clause-carries g c =
    profile_carries (given c.args.profile) (file_of c.args.inputs.source) (c.args.inputs.statement.now ∷ []) c.from_residual-in_err-text.result c.in_ok-profile.profile c.in_ok-profile.ensures.is
    (Alone Memory) c.from_residual-in_err-text.ensures.1 tt

pub returns-clause-answers : goal.returns-clause-answers
returns-clause-answers g c =
    let i = c.args.inputs in
    let profile = c.in_ok-profile.profile in
    let row = c.in_ok-row.row in
    let is = explained (file_of i.source) i.statement.now i.cert.now profile row c.in_ok-row.ensures.found in
    by_profile profile c.in_ok-profile.ensures.is
    (ends_told _ _ _ _ _ c.args.out.now c.print_or_refuse.new.out c.is_yes.result c.deref.result.now c.print_or_refuse.result
    (record { row = row; explained = is; answer_is = c.is_yes.ensures; report_is = c.deref.ensures.value ∙ c.in_ok-text.ensures })
    (checkable (file_of i.source) i.statement.now i.cert.now profile (verdict_of row) is.judged) tt c.print_or_refuse.ensures.printed c.print_or_refuse.ensures.device)

pub returns-clause-carries : goal.returns-clause-carries
returns-clause-carries g c =
    device_carries (given c.args.profile) (file_of c.args.inputs.source) (c.args.inputs.statement.now ∷ []) c.print_or_refuse.result c.in_ok-profile.profile c.in_ok-profile.ensures.is _ c.print_or_refuse.ensures.device
