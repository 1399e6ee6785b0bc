-- What has to be stated of a handler.
use Rattle.std.specs.Prelude.{◌≡◌, ℕ, if◌then◌else◌, List, Option, Some, None, Ok, Err, ◌≢◌}
use Rattle.std.specs.Prelude.{option_and_then}
use Rattle.asm_text.specs.Numbers.{read_number}
use Rattle.bus_ticks.specs.Prices.{is_word_address}
use Rattle.statement.specs.Stated.{Stated}
use Rattle.statement.specs.Statement.{IsStatement}
use Rattle.statement.specs.declared.faults.StatementFault.TheVariants as statement_fault
use Rattle.text_draft.specs.Closed.{closed}
use Rattle.text_draft.specs.Draft.{IsDraft}
use Rattle.text_draft.specs.DraftOn.{IsDraftOn}
use Rattle.text_draft.specs.declared.drafts.DraftParts.{DraftParts}
use Rattle.text_draft.specs.declared.grounds.Claims.{Claims}
use Rattle.image.specs.Image.{Words}
use Rattle.image.specs.Labels.{Names, address_of}
use Rattle.handlers.specs.Report.{IsStatementRefused}
use Rattle.handlers.specs.Source.{IsSourceFault}
use Rattle.handlers.specs.declared.fault.ReportFault.{ReportFault}
use Rattle.handlers.specs.declared.fault.ReportFault.TheVariants as report_fault
use Rattle.source_reports.specs.Proved.{IsProved}
use Rattle.sources.specs.Source.{IsSource, source_of}
use Rattle.sources.specs.declared.read.Source.{Source}
use Rattle.sources.specs.File.{File}

-- a number, where it is the address of a word
abbrev pub if_word : ℕ → Option ℕ
if_word n = if is_word_address n then Some n else None

-- decimal, or hexadecimal after `0x`
abbrev pub address_in : List ℕ → Option ℕ
address_in text = option_and_then if_word (read_number text)

abbrev pub or_address : List ℕ → Option ℕ → Option ℕ
or_address text (Some a) = Some a
or_address text None = address_in text

-- where a handler begins: at a label, else at an address
abbrev pub entry_of : Names → List ℕ → Option ℕ
entry_of names text = or_address text (names text)

module _ (source : File) (entry : List ℕ) where
  -- the source has words and labels, and the entry is an address by them
  pub record IsDraftable : Type 0 where
    pub words : Words
    pub names : Names
    pub source_is : source_of source ≡ Ok (words, names)
    pub at : ℕ
    pub entry_is : entry_of names entry ≡ Some at

  -- a draft of the handler that begins there, with labels and comments of the source's lines. What it writes
  -- as proved is
  pub record IsDraftReport (text : List ℕ) : Type 0 where
    pub read : Source
    pub is_read : IsSource source read
    pub at : ℕ
    pub entry_is : entry_of (address_of read.labels) entry ≡ Some at
    pub claims : Claims
    pub parts : DraftParts
    pub is_draft : IsDraft read at claims parts text
    pub proved : IsProved read text parts

  -- the source has words and labels, and the entry is no address by them
  pub record HasNoEntry : Type 0 where
    pub words : Words
    pub names : Names
    pub source_is : source_of source ≡ Ok (words, names)
    pub entry_is : entry_of names entry ≡ None

  -- when each refusal is answered; an output fails whatever the source
  abbrev pub IsDraftRefused : ReportFault → Type 0
  IsDraftRefused report_fault.Device = Unit {0}
  IsDraftRefused report_fault.NoSuchEntry = HasNoEntry
  IsDraftRefused fault = IsSourceFault source fault

-- ## Of a statement that is begun

-- why a text says no statement by the labels: lack of memory, or its fault
abbrev pub IsBegunFault : List ℕ → Names → ReportFault → Type 0
IsBegunFault text names report_fault.Memory = Unit {0}
IsBegunFault text names (report_fault.Statement fault) =
    (fault ≢ statement_fault.Memory) × IsStatement text names (Err fault)
IsBegunFault text names fault = ⊥

module _ (source : File) (begun : List ℕ) where
  -- the source has words and labels, and the begun text, where something stands for each "?", is a statement
  -- by them
  pub record IsDraftableOn : Type 0 where
    pub words : Words
    pub names : Names
    pub source_is : source_of source ≡ Ok (words, names)
    pub stated : Stated
    pub statement_is : IsStatement (closed begun) names (Ok stated)

  -- a draft on that statement, with labels and comments of the source's lines. What it adds as proved is,
  -- where what was stated before holds
  pub record IsDraftOnReport (text : List ℕ) : Type 0 where
    pub read : Source
    pub is_read : IsSource source read
    pub stated : Stated
    pub statement_is : IsStatement (closed begun) (address_of read.labels) (Ok stated)
    pub claims : Claims
    pub parts : DraftParts
    pub is_draft : IsDraftOn read begun stated claims parts text
    pub proved : IsProved read text parts

  -- when each refusal is answered; an output fails whatever the source and the statement
  abbrev pub IsDraftOnRefused : ReportFault → Type 0
  IsDraftOnRefused report_fault.Device = Unit {0}
  IsDraftOnRefused (report_fault.Statement fault) = IsStatementRefused source (closed begun) fault
  IsDraftOnRefused fault = IsSourceFault source fault
