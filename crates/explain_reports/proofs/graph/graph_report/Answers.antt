use Rattle.std.proofs.Common.{◌∷◌, [], sym, subst}
use Rattle.handlers.proofs.PricedLemmas.{by_profile}
use Rattle.handlers.proofs.RefusalLemmas.{device_carries, ends_refused, ends_told, profile_carries}
use Rattle.handlers.specs.Refusal.{fault_only}
use Rattle.handlers.proofs.ReportLemmas.{only_memory}
use Rattle.handlers.specs.Priced.{given}
use Rattle.explain_reports.specs.GraphReport.{IsGraphReport}
use Rattle.explain_reports.proofs.graph.graph_report.Goals as goal
use Rattle.sources.specs.File.{file_of}

pub returns-in_err-text-clause-answers : goal.returns-in_err-text-clause-answers
returns-in_err-text-clause-answers g c =
    let profile = c.in_ok-profile.profile in
    let q = c.from_residual-in_err-text.result in
    by_profile profile c.in_ok-profile.ensures.is
    (ends_refused _ _ _ _ _ c.args.out.now q c.in_err-text.field-0.0 c.from_residual-in_err-text.ensures.1 c.in_err-text.ensures.fault
    (only_memory (file_of c.args.drawn.source) c.args.drawn.statement.now profile (fault_only q)))

pub returns-in_err-text-clause-carries : goal.returns-in_err-text-clause-carries
returns-in_err-text-clause-carries g c =
    profile_carries (given c.args.profile) (file_of c.args.drawn.source) (c.args.drawn.statement.now ∷ []) c.from_residual-in_err-text.result c.in_ok-profile.profile c.in_ok-profile.ensures.is
    c.in_err-text.field-0.0 c.from_residual-in_err-text.ensures.1 c.in_err-text.ensures.carries

pub returns-clause-answers : goal.returns-clause-answers
returns-clause-answers g c =
    let profile = c.in_ok-profile.profile in
    let draws = subst (IsGraphReport (file_of c.args.drawn.source) c.args.drawn.statement.now c.args.drawn.extent profile) (sym c.deref.ensures.value) c.in_ok-text.ensures.draws in
    by_profile profile c.in_ok-profile.ensures.is
    (ends_told _ _ _ _ _ c.args.out.now c.print_or_refuse.new.out tt c.deref.result.now c.print_or_refuse.result
    draws draws.bounded.accepted tt c.print_or_refuse.ensures.printed c.print_or_refuse.ensures.device)

pub returns-clause-carries : goal.returns-clause-carries
returns-clause-carries g c =
    device_carries (given c.args.profile) (file_of c.args.drawn.source) (c.args.drawn.statement.now ∷ []) c.print_or_refuse.result c.in_ok-profile.profile c.in_ok-profile.ensures.is _ c.print_or_refuse.ensures.device
