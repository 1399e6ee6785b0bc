use Rattle.std.proofs.Common.{Option, ℕ, subst, sym}
use Rattle.handlers.specs.Faults.{of_walk}
use Rattle.handlers.specs.Report.{BeforeOutput, IsRefused}
use Rattle.handlers.proofs.HandlerLemmas.{refused_as}
use Rattle.handlers.proofs.ReportLemmas.{walk_refusal}
use Rattle.explain_reports.specs.FirstStarts.{AreAskedFirst}
use Rattle.explain_reports.proofs.FirstLemmas.{by_ref}
use Rattle.explain_reports.proofs.explain.asked_explanation.Goals as goal

pub returns-in_err-starts-clause-fault : goal.returns-in_err-starts-clause-fault
returns-in_err-starts-clause-fault c = λ source statement loops.
    let profile = c.args.profile.now in
    let h = c.args.handler.now in
    let f = c.in_err-starts.field-0.0 in
    refused_as c.from_residual.result (of_walk f) (BeforeOutput (IsRefused source statement profile)) c.from_residual.ensures.1
    (walk_refusal source statement profile h.statement h.graph h.tree loops c.requires.tree f c.in_err-starts.ensures.fault)

pub explanation_of-requires-clause-first : goal.explanation_of-requires-clause-first
explanation_of-requires-clause-first c =
    let h = c.args.handler.now in
    subst (λ (o : Option (ℕ → Option ℕ)). AreAskedFirst h.graph h.statement.loops c.args.explained.form.first o)
    (sym (by_ref c.as_ref-first.result c.in_ok-starts.starts c.as_ref-first.ensures.value)) c.in_ok-starts.ensures.first
