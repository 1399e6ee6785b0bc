use Rattle.std.proofs.Common.{◌∷◌, []}
use Rattle.handlers.proofs.PricedLemmas.{by_profile}
use Rattle.handlers.proofs.RefusalLemmas.{device_carries, ends_told, profile_carries}
use Rattle.handlers.specs.Priced.{given}
use Rattle.explain_reports.proofs.CheckLemmas.{checkable, ends_unfound, judged}
use Rattle.explain_reports.proofs.check.print_check.Goals as goal
use Rattle.sources.specs.File.{file_of}

pub returns-in_err-verdict-clause-answers : goal.returns-in_err-verdict-clause-answers
returns-in_err-verdict-clause-answers g c =
    by_profile c.in_ok-profile.profile c.in_ok-profile.ensures.is
    (ends_unfound _ _ _ _ _ c.args.out.now c.from_residual-in_err-verdict.result c.in_err-verdict.field-0.0 c.from_residual-in_err-verdict.ensures.1 c.in_err-verdict.ensures.fault
    c.in_err-verdict.ensures.only)

pub returns-in_err-verdict-clause-carries : goal.returns-in_err-verdict-clause-carries
returns-in_err-verdict-clause-carries g c =
    profile_carries (given c.args.profile) (file_of c.args.inputs.source) (c.args.inputs.statement.now ∷ []) c.from_residual-in_err-verdict.result c.in_ok-profile.profile c.in_ok-profile.ensures.is
    c.in_err-verdict.field-0.0 c.from_residual-in_err-verdict.ensures.1 c.in_err-verdict.ensures.carries

pub returns-clause-answers : goal.returns-clause-answers
returns-clause-answers g c =
    let i = c.args.inputs in
    let profile = c.in_ok-profile.profile in
    let v = c.in_ok-verdict.verdict in
    let is = judged (file_of i.source) i.statement.now i.cert.now profile v c.in_ok-verdict.ensures.found in
    by_profile profile c.in_ok-profile.ensures.is
    (ends_told _ _ _ _ _ c.args.out.now c.print_or_refuse.new.out c.is_yes.result c.verdict_line.result.now c.print_or_refuse.result
    (record { verdict = v; judged = is; answer_is = c.is_yes.ensures; line_is = c.verdict_line.ensures })
    (checkable (file_of i.source) i.statement.now i.cert.now profile v is) tt c.print_or_refuse.ensures.printed c.print_or_refuse.ensures.device)

pub returns-clause-carries : goal.returns-clause-carries
returns-clause-carries g c =
    device_carries (given c.args.profile) (file_of c.args.inputs.source) (c.args.inputs.statement.now ∷ []) c.print_or_refuse.result c.in_ok-profile.profile c.in_ok-profile.ensures.is _ c.print_or_refuse.ensures.device
