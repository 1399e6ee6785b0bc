use Rattle.std.proofs.Common.{◌≡◌, subst, sym}
use Rattle.std.proofs.lemmas.Result.{IfErr-weaker, IfOk-weaker}
use Rattle.handlers.proofs.HandlerLemmas.{refused_as}
use Rattle.handlers.specs.Report.{BeforeOutput}
use Rattle.handlers.specs.declared.fault.ReportFault.{ReportFault}
use Rattle.handlers.specs.declared.fault.ReportFault.TheVariants.{Memory}
use Rattle.source_reports.specs.DraftReport.{IsDraftOnRefused}
use Rattle.source_reports.proofs.BegunLaws.{begun_only, begun_refused}
use Rattle.source_reports.proofs.begun.source_draft_on.Goals as goal
use Rattle.sources.specs.File.{file_of}

pub returns-in_err-statement-clause-fault : goal.returns-in_err-statement-clause-fault
returns-in_err-statement-clause-fault c =
    let fault = c.in_err-statement.field-0.0 in
    refused_as c.from_residual-in_err-statement.result fault (BeforeOutput (IsDraftOnRefused (file_of c.args.source) c.args.begun.now))
    c.from_residual-in_err-statement.ensures.1
    (begun_refused (file_of c.args.source) c.args.begun.now c.in_ok-read.read c.in_ok-read.ensures.is.said fault c.in_err-statement.ensures.fault)

pub returns-in_err-statement-clause-only : goal.returns-in_err-statement-clause-only
returns-in_err-statement-clause-only c = λ fine.
    let fault = c.in_err-statement.field-0.0 in
    refused_as c.from_residual-in_err-statement.result fault (λ (e : ReportFault). e ≡ Memory) c.from_residual-in_err-statement.ensures.1
    (begun_only (file_of c.args.source) c.args.begun.now c.in_ok-read.read c.in_ok-read.ensures.is.said fault c.in_err-statement.ensures.fault fine)

pub returns-clause-draft : goal.returns-clause-draft
returns-clause-draft c =
    IfOk-weaker c.proved_draft_on.result _ _
    (λ text drafted. record {
      read = c.in_ok-read.read;
      is_read = c.in_ok-read.ensures.is;
      stated = c.in_ok-statement.statement;
      statement_is = c.in_ok-statement.ensures.is;
      claims = drafted.claims;
      parts = drafted.parts;
      is_draft = drafted.is_draft;
      proved = drafted.proved;
    })
    c.proved_draft_on.ensures.draft

pub proved_draft_on-requires : goal.proved_draft_on-requires
proved_draft_on-requires c = (file_of c.args.source, c.in_ok-read.ensures.is.said)

pub returns-clause-fault : goal.returns-clause-fault
returns-clause-fault c =
    IfErr-weaker c.proved_draft_on.result _ _
    (λ e memory. subst (BeforeOutput (IsDraftOnRefused (file_of c.args.source) c.args.begun.now)) (sym memory) (λ d. cc d, tt))
    c.proved_draft_on.ensures.memory
