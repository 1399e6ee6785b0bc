use Rattle.std.proofs.Common.{◌∷◌, [], sym, subst}
use Rattle.handlers.proofs.PricedLemmas.{by_profile}
use Rattle.handlers.proofs.RefusalLemmas.{device_carries, ends_refused, ends_told, profile_carries}
use Rattle.handlers.specs.Refusal.{fault_only}
use Rattle.handlers.proofs.ReportLemmas.{only_memory}
use Rattle.handlers.specs.Priced.{given}
use Rattle.explain_reports.specs.ExplainReport.{IsFullExplanation}
use Rattle.explain_reports.proofs.explain.explain_report.Goals as goal
use Rattle.sources.specs.File.{file_of}

pub returns-in_err-found-clause-answers : goal.returns-in_err-found-clause-answers
returns-in_err-found-clause-answers g c =
    let profile = c.in_ok-profile.profile in
    let q = c.from_residual-in_err-found.result in
    by_profile profile c.in_ok-profile.ensures.is
    (ends_refused _ _ _ _ _ c.args.out.now q c.in_err-found.field-0.0 c.from_residual-in_err-found.ensures.1 c.in_err-found.ensures.fault
    (only_memory (file_of c.args.explained.source) c.args.explained.statement.now profile (fault_only q)))

pub returns-in_err-found-clause-carries : goal.returns-in_err-found-clause-carries
returns-in_err-found-clause-carries g c =
    profile_carries (given c.args.profile) (file_of c.args.explained.source) (c.args.explained.statement.now ∷ []) c.from_residual-in_err-found.result c.in_ok-profile.profile c.in_ok-profile.ensures.is
    c.in_err-found.field-0.0 c.from_residual-in_err-found.ensures.1 c.in_err-found.ensures.carries

pub returns-clause-answers : goal.returns-clause-answers
returns-clause-answers g c =
    let x = c.args.explained in
    let profile = c.in_ok-profile.profile in
    let bound = c.in_ok-found.found.bound in
    let explains = subst (IsFullExplanation (file_of x.source) x.statement.now x.bursts x.form x.each profile bound) (sym c.deref.ensures.value) c.in_ok-found.ensures.explains in
    by_profile profile c.in_ok-profile.ensures.is
    (ends_told _ _ _ _ _ c.args.out.now c.print_or_refuse.new.out c.is_enough.result c.deref.result.now c.print_or_refuse.result
    (record { bound = bound; explains = explains; answer_is = c.is_enough.ensures }) explains.explains.bounded.accepted tt c.print_or_refuse.ensures.printed c.print_or_refuse.ensures.device)

pub returns-clause-carries : goal.returns-clause-carries
returns-clause-carries g c =
    device_carries (given c.args.profile) (file_of c.args.explained.source) (c.args.explained.statement.now ∷ []) c.print_or_refuse.result c.in_ok-profile.profile c.in_ok-profile.ensures.is _ c.print_or_refuse.ensures.device
