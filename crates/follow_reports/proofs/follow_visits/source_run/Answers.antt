use Rattle.std.proofs.Common.{◌∷◌, []}
use Rattle.handlers.specs.Refusal.{CarriesOneOf, stop_fault}
use Rattle.handlers.specs.declared.refusal.Stop.TheVariants.{Alone}
use Rattle.handlers.proofs.HandlerLemmas.{refused_as}
use Rattle.handlers.proofs.RefusalLemmas.{first_carries, second_carries, stop_err}
use Rattle.follow_reports.proofs.VisitedLemmas.{Refused, bound_accepted, fiq_refused, irq_refused}
use Rattle.follow_reports.proofs.follow_visits.source_run.Goals as goal
use Rattle.sources.specs.File.{file_of}

pub returns-in_err-irq-clause-fault : goal.returns-in_err-irq-clause-fault
returns-in_err-irq-clause-fault c =
    let s = c.in_err-irq.field-0.0 in
    refused_as c.from_residual.result s (λ s. Refused (file_of c.args.run.source) c.args.run.statement.now c.args.run.fiq_statement.now c.args.run.machine.now c.args.profile.now (stop_fault s)) c.from_residual.ensures.1
    (irq_refused (file_of c.args.run.source) c.args.run.statement.now c.args.run.fiq_statement.now c.args.run.machine.now c.args.profile.now (stop_fault s) (c.in_err-irq.ensures.fault (file_of c.args.run.source) c.requires.said))

pub returns-in_err-fiq-clause-fault : goal.returns-in_err-fiq-clause-fault
returns-in_err-fiq-clause-fault c =
    let s = c.in_err-fiq.field-0.0 in
    refused_as c.from_residual-in_err-fiq.result s (λ s. Refused (file_of c.args.run.source) c.args.run.statement.now c.args.run.fiq_statement.now c.args.run.machine.now c.args.profile.now (stop_fault s)) c.from_residual-in_err-fiq.ensures.1
    (fiq_refused (file_of c.args.run.source) c.args.run.statement.now c.args.run.fiq_statement.now c.args.run.machine.now c.args.profile.now (stop_fault s)
    (bound_accepted (file_of c.args.run.source) c.args.run.statement.now c.args.profile.now c.in_ok-irq.irq (c.in_ok-irq.ensures.is (file_of c.args.run.source) c.requires.said))
    (c.in_err-fiq.ensures.fault (file_of c.args.run.source) c.requires.said))

pub returns-in_err-irq-clause-carries : goal.returns-in_err-irq-clause-carries
returns-in_err-irq-clause-carries c =
    let s = c.in_err-irq.field-0.0 in
    refused_as c.from_residual.result s (CarriesOneOf (file_of c.args.run.source) c.args.said.now (c.args.run.statement.now ∷ c.args.run.fiq_statement.now ∷ []) c.args.profile.now) c.from_residual.ensures.1
    (first_carries c.args.said.now c.args.run.statement.now c.args.profile.now (file_of c.args.run.source) (c.args.run.fiq_statement.now ∷ []) s c.in_err-irq.ensures.carries)

pub returns-in_err-fiq-clause-carries : goal.returns-in_err-fiq-clause-carries
returns-in_err-fiq-clause-carries c =
    let s = c.in_err-fiq.field-0.0 in
    refused_as c.from_residual-in_err-fiq.result s (CarriesOneOf (file_of c.args.run.source) c.args.said.now (c.args.run.statement.now ∷ c.args.run.fiq_statement.now ∷ []) c.args.profile.now) c.from_residual-in_err-fiq.ensures.1
    (second_carries c.args.said.now c.args.run.fiq_statement.now c.args.profile.now (file_of c.args.run.source) c.args.run.statement.now
    (bound_accepted (file_of c.args.run.source) c.args.run.statement.now c.args.profile.now c.in_ok-irq.irq (c.in_ok-irq.ensures.is (file_of c.args.run.source) c.requires.said)) s c.in_err-fiq.ensures.carries)

pub returns-in_err-machine_run-clause-carries : goal.returns-in_err-machine_run-clause-carries
returns-in_err-machine_run-clause-carries c =
    let e = c.in_err-machine_run.field-0.0 in
    refused_as c.from_residual-in_err-machine_run.result (Alone e) (CarriesOneOf (file_of c.args.run.source) c.args.said.now (c.args.run.statement.now ∷ c.args.run.fiq_statement.now ∷ []) c.args.profile.now) c.from_residual-in_err-machine_run.ensures.1
    (first_carries c.args.said.now c.args.run.statement.now c.args.profile.now (file_of c.args.run.source) (c.args.run.fiq_statement.now ∷ []) (Alone e) (c.in_err-machine_run.ensures.alone))

pub machine_run-requires-clause-irq : goal.machine_run-requires-clause-irq
machine_run-requires-clause-irq c = c.in_ok-irq.ensures.is (file_of c.args.run.source) c.requires.said

pub machine_run-requires-clause-fiq : goal.machine_run-requires-clause-fiq
machine_run-requires-clause-fiq c = c.in_ok-fiq.ensures.is (file_of c.args.run.source) c.requires.said

pub returns-in_err-machine_run-clause-fault : goal.returns-in_err-machine_run-clause-fault
returns-in_err-machine_run-clause-fault c =
    let r = c.args.run in
    let e = c.in_err-machine_run.field-0.0 in
    stop_err c.from_residual-in_err-machine_run.result e (Refused (file_of r.source) r.statement.now r.fiq_statement.now r.machine.now c.args.profile.now) c.from_residual-in_err-machine_run.ensures.1 c.in_err-machine_run.ensures.fault
