use Rattle.std.proofs.Common.{Bool, subst, sym}
use Rattle.handlers.specs.Report.{BeforeOutput, IsRefused}
use Rattle.handlers.proofs.HandlerLemmas.{refused_as}
use Rattle.explain_reports.specs.ExplainReport.{IsFullExplanation}
use Rattle.explain_reports.proofs.ExplainLemmas.{full_without}
use Rattle.explain_reports.proofs.explain.full_explanation.Goals as goal

pub returns-in_err-found-clause-fault : goal.returns-in_err-found-clause-fault
returns-in_err-found-clause-fault c = λ source statement loops.
    refused_as c.from_residual.result c.in_err-found.field-0.0 (BeforeOutput (IsRefused source statement c.args.profile.now)) c.from_residual.ensures.1
    (c.in_err-found.ensures.fault source statement loops)

pub returns-then-not-explained-clause-explains : goal.returns-then-not-explained-clause-explains
returns-then-not-explained-clause-explains c = λ source statement is loops.
    let x = c.args.explained in
    let profile = c.args.profile.now in
    let found = c.in_ok-found.found in
    subst (λ (b : Bool). IsFullExplanation source statement x.bursts x.form b profile found.bound found.text.items) (sym c.if-not-explained.true)
    (full_without source statement x.bursts x.form profile found.bound found.text.items (c.in_ok-found.ensures.explains source statement is loops))

pub returns-clause-explains : goal.returns-clause-explains
returns-clause-explains c = λ source statement is loops.
    let x = c.args.explained in
    let profile = c.args.profile.now in
    let found = c.in_ok-with_each.field-0 in
    subst (λ (b : Bool). IsFullExplanation source statement x.bursts x.form b profile found.bound found.text.items) (sym c.if-not-explained.false)
    (c.in_ok-with_each.ensures source statement c.args.handler.now.graph x.bursts x.form is loops.graph (c.in_ok-found.ensures.explains source statement is loops))
