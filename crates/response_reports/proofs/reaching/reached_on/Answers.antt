use Rattle.std.proofs.Common.{◌≡◌, ◌∙◌, ◌⊎◌, ℕ, Option, inl, inr, refl, subst, sym}
use Rattle.responses.specs.Response.{IsWorstArrival}
use Rattle.handlers.specs.declared.fault.ReportFault.TheVariants.{Memory}
use Rattle.handlers.proofs.HandlerLemmas.{refused_as}
use Rattle.response_reports.specs.Question.{question_of}
use Rattle.response_reports.specs.RespondReport.{IsAimRefused}
use Rattle.response_reports.proofs.ReachLemmas.{no_address, not_reached, not_vector, reached, walk_refused}
use Rattle.response_reports.proofs.reaching.reached_on.Goals as goal

pub returns-in_default-clause-fault : goal.returns-in_default-clause-fault
returns-in_default-clause-fault c = λ profile loops.
    let q = question_of c.args.asked in
    let h = c.args.handler.now in
    inr (not_vector q profile h.statement h.graph loops c.args.said.now c.requires.says (λ i asked e. c.in_default.ensures i asked (c.entry.ensures.value ∙ e)))

pub returns-in_default-entry_of-clause-fault : goal.returns-in_default-entry_of-clause-fault
returns-in_default-entry_of-clause-fault c = λ profile loops.
    let q = question_of c.args.asked in
    let h = c.args.handler.now in
    let i = c.in-Some.ensures in
    inr (no_address q profile h.statement h.graph loops c.args.said.now c.requires.says c.in-Some.interrupt i.0 (sym c.entry.ensures.value ∙ i.1) c.in_default-entry_of.ensures)

pub returns-in_err-longest_of-clause-fault : goal.returns-in_err-longest_of-clause-fault
returns-in_err-longest_of-clause-fault c = λ profile loops.
    let q = question_of c.args.asked in
    let h = c.args.handler.now in
    let i = c.in-Some.ensures in
    let e = c.in_err-longest_of.field-0.0 in
    refused_as c.from_residual.result e (λ e. (e ≡ Memory) ⊎ IsAimRefused q profile e) c.from_residual.ensures.1
    (walk_refused q profile h.statement h.graph loops c.args.said.now c.requires.says c.in-Some.interrupt i.0 (sym c.entry.ensures.value ∙ i.1)
    c.in-Some-entry_of.address c.in-Some-entry_of.ensures e (c.in_err-longest_of.ensures.fault q.source q.statement profile loops))

pub returns-in_default-2-clause-fault : goal.returns-in_default-2-clause-fault
returns-in_default-2-clause-fault c = λ profile loops.
    let q = question_of c.args.asked in
    let h = c.args.handler.now in
    let i = c.in-Some.ensures in
    let at = c.in-Some-entry_of.address in
    inr (not_reached q profile h.statement h.graph loops c.args.said.now c.requires.says c.in-Some.interrupt i.0 (sym c.entry.ensures.value ∙ i.1)
    at c.in-Some-entry_of.ensures h.tree c.requires.tree c.in_ok-longest_of.ensures.allowed
    (inl (subst (λ (o : Option ℕ). IsWorstArrival h.graph h.statement.loops at o) c.in_default-2.is c.in_ok-arrival.ensures.arrival)))

pub returns-in_default-worst_step_at-clause-fault : goal.returns-in_default-worst_step_at-clause-fault
returns-in_default-worst_step_at-clause-fault c = λ profile loops.
    let q = question_of c.args.asked in
    let h = c.args.handler.now in
    let i = c.in-Some.ensures in
    inr (not_reached q profile h.statement h.graph loops c.args.said.now c.requires.says c.in-Some.interrupt i.0 (sym c.entry.ensures.value ∙ i.1)
    c.in-Some-entry_of.address c.in-Some-entry_of.ensures h.tree c.requires.tree c.in_ok-longest_of.ensures.allowed (inr c.in_default-worst_step_at.ensures))

pub returns-clause-reached : goal.returns-clause-reached
returns-clause-reached c = λ profile loops.
    let q = question_of c.args.asked in
    let h = c.args.handler.now in
    let i = c.in-Some.ensures in
    let at = c.in-Some-entry_of.address in
    reached q profile h.statement h.graph loops c.args.said.now c.requires.says c.in-Some.interrupt i.0 (sym c.entry.ensures.value ∙ i.1)
    at c.in-Some-entry_of.ensures h.tree c.requires.tree c.in_ok-longest_of.ensures.allowed c.in-Some-2.arrival c.in-Some-worst_step_at.own
    (subst (λ (o : Option ℕ). IsWorstArrival h.graph h.statement.loops at o) c.in-Some-2.is c.in_ok-arrival.ensures.arrival) c.in-Some-worst_step_at.ensures _ refl refl refl
