-- Refusals of a statement that is begun.
use Rattle.std.proofs.Common.{◌≡◌, List, ℕ, Ok, Err, refl, ap}
use Rattle.std.specs.Prelude.{◌≢◌}
use Rattle.handlers.proofs.HandlerLemmas.{one_ok, same_statement}
use Rattle.handlers.specs.Faults.{of_statement}
use Rattle.handlers.specs.Report.{BeforeOutput}
use Rattle.handlers.specs.declared.fault.ReportFault.{ReportFault}
use Rattle.handlers.specs.declared.fault.ReportFault.TheVariants as report_fault
use Rattle.image.specs.Labels.{Names, address_of}
use Rattle.source_reports.specs.DraftReport.{IsBegunFault, IsDraftOnRefused, IsDraftableOn}
use Rattle.sources.specs.Source.{Said, Says, source_of}
use Rattle.sources.specs.declared.read.Source.{Source}
use Rattle.statement.specs.Statement.{IsStatement}
use Rattle.statement.specs.declared.faults.StatementFault.{StatementFault}
use Rattle.statement.specs.declared.faults.StatementFault.TheVariants as statement_fault
use Rattle.text_draft.specs.Closed.{closed}
use Rattle.sources.specs.File.{File}

-- a fault of the text, as a report has it
pub begun_fault : (text : List ℕ) (names : Names) (f : StatementFault)
    → (f ≢ statement_fault.Memory → IsStatement text names (Err f)) → IsBegunFault text names (of_statement f)
begun_fault text names statement_fault.Memory h = tt
begun_fault text names f h = (λ e. cc e, h (λ e. cc e))

module _ (source : File) (begun : List ℕ) (read : Source) (said : Says source read) where
  pub begun_refused : (fault : ReportFault) → IsBegunFault (closed begun) (address_of read.labels) fault
      → BeforeOutput (IsDraftOnRefused source begun) fault
  begun_refused report_fault.Memory h = (λ e. cc e, tt)
  begun_refused (report_fault.Statement f) h = (
    λ e. cc e,
    record { words = read.image; names = address_of read.labels; source_is = said; not_memory = h.0; statement_is = h.1 },
  )
  begun_refused fault h = absurd h

  -- and where it can be drafted on, it is lack of memory
  pub begun_only : (fault : ReportFault) → IsBegunFault (closed begun) (address_of read.labels) fault
      → IsDraftableOn source begun → fault ≡ report_fault.Memory
  begun_only report_fault.Memory h d = refl
  begun_only (report_fault.Statement f) h d =
      let same = one_ok (d.words, d.names) (read.image, address_of read.labels) (source_of source) d.source_is said in
      let no : Ok d.stated ≡ Err f =
      same_statement (closed begun) d.names (address_of read.labels) (Ok d.stated) (Err f) (ap (λ (s : Said). s.1) same) d.statement_is h.1 in
      absurd (cc no)
  begun_only fault h d = absurd h
