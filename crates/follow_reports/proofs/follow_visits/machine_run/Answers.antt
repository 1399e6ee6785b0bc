use Rattle.std.proofs.Common.{IfOk, subst, sym}
use Rattle.std.proofs.lemmas.Result.{IfErr-weaker, IfOk-weaker}
use Rattle.image.specs.Labels.{address_of}
use Rattle.follow_reports.specs.VisitedWork.{IsVisitsJudged}
use Rattle.follow_reports.proofs.VisitedLemmas.{Refused, both_accepted, irq_refused, machine_refused, visits_reported}
use Rattle.handlers.proofs.HandlerLemmas.{refused_as}
use Rattle.handlers.specs.Refusal.{ComesAlone}
use Rattle.handlers.specs.declared.fault.ReportFault.TheVariants.{Memory}
use Rattle.handlers.proofs.RefusalLemmas.{run_alone}
use Rattle.sources.specs.Source.{IsSource}
use Rattle.follow_reports.proofs.follow_visits.machine_run.Goals as goal
use Rattle.sources.specs.File.{File, file_of}

pub returns-in_err-placed-clause-fault : goal.returns-in_err-placed-clause-fault
returns-in_err-placed-clause-fault c =
    let r = c.args.run in
    let b = c.args.both in
    let said = b.read.now in
    let profile = c.args.profile.now in
    let e = c.in_err-placed.field-0.0 in
    refused_as c.from_residual.result e (Refused (file_of r.source) r.statement.now r.fiq_statement.now r.machine.now profile) c.from_residual.ensures.1
    (machine_refused (file_of r.source) r.statement.now r.fiq_statement.now r.machine.now profile e
    (both_accepted (file_of r.source) r.statement.now r.fiq_statement.now r.machine.now profile said.image (address_of said.labels) c.requires.read.said b.irq.now b.fiq.now c.requires.irq c.requires.fiq c.requires.entry)
    (c.in_err-placed.ensures.fault (file_of r.source) c.requires.read.said))

pub visits_judged-requires-clause-read : goal.visits_judged-requires-clause-read
visits_judged-requires-clause-read c = subst (λ (text : File). IsSource text c.args.both.read.now) (sym c.requires.source) c.requires.read

pub returns-clause-judged : goal.returns-clause-judged
returns-clause-judged c =
    let r = c.args.run in
    let b = c.args.both in
    let said = b.read.now in
    let profile = c.args.profile.now in
    let placed = c.in_ok-placed.placed in
    let is_placed = c.in_ok-placed.ensures.placed (file_of r.source) c.requires.read.said in
    let judged = subst (λ (text : File). IfOk c.visits_judged.result (λ j. IsVisitsJudged text said.image profile b.irq.now b.fiq.now placed.file placed.machine j.kept j.text.items)) c.requires.source c.visits_judged.ensures.judged in
    IfOk-weaker c.visits_judged.result _ _
    (λ j is. visits_reported (file_of r.source) r.statement.now r.fiq_statement.now r.machine.now profile said.image (address_of said.labels) c.requires.read.said b.irq.now b.fiq.now c.requires.irq c.requires.fiq c.requires.entry placed.file placed.machine j.kept j.text.items is_placed is)
    judged

pub returns-clause-fault : goal.returns-clause-fault
returns-clause-fault c =
    let r = c.args.run in
    let profile = c.args.profile.now in
    IfErr-weaker c.visits_judged.result _ _
    (λ e memory. subst (Refused (file_of r.source) r.statement.now r.fiq_statement.now r.machine.now profile) (sym memory) (irq_refused (file_of r.source) r.statement.now r.fiq_statement.now r.machine.now profile Memory (λ e. cc e, tt)))
    c.visits_judged.ensures.fault

pub returns-in_err-placed-clause-alone : goal.returns-in_err-placed-clause-alone
returns-in_err-placed-clause-alone c =
    let r = c.args.run in
    let e = c.in_err-placed.field-0.0 in
    let h = c.in_err-placed.ensures.fault (file_of r.source) c.requires.read.said in
    refused_as c.from_residual.result e ComesAlone c.from_residual.ensures.1
    (run_alone (file_of r.source) r.machine.now c.args.profile.now e h.1)

pub returns-clause-alone : goal.returns-clause-alone
returns-clause-alone c =
    IfErr-weaker c.visits_judged.result _ _ (λ e memory. subst ComesAlone (sym memory) tt) c.visits_judged.ensures.fault
