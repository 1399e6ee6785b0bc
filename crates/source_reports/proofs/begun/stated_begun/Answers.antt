use Rattle.std.proofs.Common.{◌≡◌, ◌∙◌, Err, Ok, subst}
use Rattle.handlers.proofs.HandlerLemmas.{refused_as}
use Rattle.handlers.specs.Faults.{of_statement}
use Rattle.image.specs.Labels.{address_of}
use Rattle.source_reports.specs.DraftReport.{IsBegunFault}
use Rattle.source_reports.proofs.BegunLaws.{begun_fault}
use Rattle.statement.specs.Statement.{IsStatement}
use Rattle.statement.specs.declared.faults.StatementFault.TheVariants as statement_fault
use Rattle.text_draft.specs.Closed.{closed}
use Rattle.source_reports.proofs.begun.stated_begun.Goals as goal

pub returns-in_err-statement-clause-fault : goal.returns-in_err-statement-clause-fault
returns-in_err-statement-clause-fault c =
    let names = address_of c.args.source.now.labels in
    let text = closed c.args.begun.now in
    let fault = c.in_err-statement.field-0.0 in
    refused_as c.from_residual-in_err-statement.result (of_statement fault) (IsBegunFault text names)
    c.from_residual-in_err-statement.ensures.1
    (begun_fault text names fault
    (λ other. subst (λ t. IsStatement t names (Err fault)) (c.deref.ensures.value ∙ c.in_ok-text.ensures)
    (c.in_err-statement.ensures (λ e. other (let same : fault ≡ statement_fault.Memory = cc e in same)))))

pub returns-clause-is : goal.returns-clause-is
returns-clause-is c =
    subst (λ t. IsStatement t (address_of c.args.source.now.labels) (Ok c.in_ok-statement.statement))
    (c.deref.ensures.value ∙ c.in_ok-text.ensures) (c.in_ok-statement.ensures (λ e. cc e))
