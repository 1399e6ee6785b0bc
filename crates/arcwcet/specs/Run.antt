-- What a run of the program does, by its exit status.
use Rattle.std.specs.Prelude.{◌≡◌, ◌≢◌, ◌⊎◌, ◌≤◌, ℕ, Bool, true, false, if◌then◌else◌, List, []}
use Rattle.std.specs.Prelude.{codes, length, Option, Some, None, Result, Ok, Err}
use Rattle.std.specs.Io.KnownBytes.{Appends, Consumes, IsAtEnd}
use Rattle.handlers.specs.Answers.{FailsWithin, OfSome, Prints, PrintsOrRefuses}
use Rattle.handlers.specs.FaultText.{fault_text}
use Rattle.source_reports.specs.Assembly.{IsWritten}
use Rattle.arcwcet.specs.Files.{FailsToRead, ReadsAll, Reading, StopsReading, Texts, Writing}
use Rattle.arcwcet.specs.Files.{inputs_of, names_of}
use Rattle.arcwcet.specs.Import.{IsImported, image_of, import_fault_text}
use Rattle.imports.specs.declared.fault.ImportFault.{ImportFault}
use Rattle.imports.specs.declared.fault.ImportFault.TheVariants as import_fault
use Rattle.arcwcet.specs.Refusals.{Saying, refusal_of, store_fault_name}
use Rattle.arcwcet.specs.Reports.{Report, report_of}
use Rattle.outputs.specs.Output.{TakesFront, FailsSince}
use Rattle.command_line.specs.Line.{Asked}
use Rattle.command_line.specs.declared.line.Command.{Command}
use Rattle.command_line.specs.declared.line.Command.TheVariants as command
use Rattle.handlers.specs.declared.fault.ReportFault.{ReportFault}
use Rattle.handlers.specs.declared.fault.ReportFault.TheVariants as report_fault
use Rattle.arcwcet.specs.declared.files.TheConstants.{MOST_INPUT_BYTES}
use Rattle.arcwcet.specs.declared.fault.StoreFault.{StoreFault}
use Rattle.arcwcet.specs.declared.fault.StoreFault.TheVariants as store_fault

-- the exit status of a file that cannot be read or written
abbrev pub store_status : StoreFault → ℕ
store_status store_fault.Memory = 3
store_status store_fault.Device = 4
store_status store_fault.InputTooLong = 1

-- the exit status of a refused report or check
abbrev pub report_status : ReportFault → ℕ
report_status report_fault.Memory = 3
report_status report_fault.Device = 4
report_status fault = 1

-- the exit status of a report that says yes or no
abbrev pub answer_status : Result Bool ReportFault → ℕ
answer_status (Ok answer) = if answer then 0 else 1
answer_status (Err fault) = report_status fault

-- ## Of any command that reads files and prints a report

module _ {S : Type 0} (reads : Reading S) (names : Texts) (old new : S) where
  -- all files were read
  pub record HasRead : Type 0 where
    pub files : Texts
    pub read : ReadsAll reads old names files new

  -- such a text of the files' bytes was printed
  pub record HasPrinted (IsText : Texts → List ℕ → Type 0) (out_old out_new : Option (List ℕ)) : Type 0 where
    pub files : Texts
    pub read : ReadsAll reads old names files new
    pub printed : Prints (IsText files) out_old out_new

  -- the output failed within such a text
  pub record FailsToPrint (IsText : Texts → List ℕ → Type 0) (out_old out_new : Option (List ℕ))
      (before after : ℕ) : Type 0 where
    pub files : Texts
    pub read : ReadsAll reads old names files new
    pub fails : FailsWithin (IsText files) out_old out_new before after

  -- what the files hold is refused, and standard error says with which fault
  pub record HasRefused (Says : Saying) (IsFault : Texts → ReportFault → Type 0) : Type 0 where
    pub files : Texts
    pub read : ReadsAll reads old names files new
    pub fault : ReportFault
    pub not_memory : fault ≢ report_fault.Memory
    pub not_device : fault ≢ report_fault.Device
    pub refused : IsFault files fault
    pub said : Says (Some (fault_text fault))

  -- status 1: a file is too long, or what they hold is refused
  abbrev pub IsRefusedRun : Saying → (Texts → ReportFault → Type 0) → Type 0
  IsRefusedRun Says IsFault =
      (FailsToRead reads old names store_fault.InputTooLong new × Says (Some (codes "InputTooLong")))
      ⊎ HasRefused Says IsFault

  -- status 4: a file could not be read, and nothing was printed, or the output failed
  abbrev pub IsFailedRun : {O : Type 0} → (Texts → List ℕ → Type 0) → (taken : O → Option (List ℕ))
      → (failures : O → ℕ) → (before after : O) → Type 0
  IsFailedRun IsText taken failures before after =
      (FailsToRead reads old names store_fault.Device new × (after ≡ before))
      ⊎ FailsToPrint IsText (taken before) (taken after) (failures before) (failures after)

  -- status 3: no file was read, or one could not be read for lack of memory, or all were read
  abbrev pub IsOutOfMemory : Type 0
  IsOutOfMemory = (new ≡ old) ⊎ (FailsToRead reads old names store_fault.Memory new ⊎ HasRead)

-- What a command did with the files of these names, by its status. At 0 it printed a text of `true`; at 1 it
-- printed one of `false`, or the files are refused and nothing is printed; nor is anything for lack of
-- memory. Standard error says what was refused, and nothing where a text was printed.
pub record Runs {S O : Type 0} (reads : Reading S) (taken : O → Option (List ℕ)) (failures : O → ℕ)
    (Says : Saying) (IsText : Bool → Texts → List ℕ → Type 0) (IsFault : Texts → ReportFault → Type 0)
    (names : Texts) (old new : S) (before after : O) (status : ℕ) : Type 0 where
  pub done : status ≡ 0
      → HasPrinted reads names old new (IsText true) (taken before) (taken after) × Says None
  pub denied : status ≡ 1
      → (HasPrinted reads names old new (IsText false) (taken before) (taken after) × Says None)
      ⊎ (IsRefusedRun reads names old new Says IsFault × (after ≡ before))
  pub failed : status ≡ 4
      → IsFailedRun reads names old new
      (λ files. OfSome (λ answer. IsText answer files)) taken failures before after
      × Says (Some (codes "Device"))
  pub out_of_memory : status ≡ 3
      → IsOutOfMemory reads names old new × (after ≡ before) × Says (Some (codes "Memory"))
  pub known : (status ≡ 0) ⊎ ((status ≡ 1) ⊎ ((status ≡ 3) ⊎ (status ≡ 4)))

-- ## Of a command that reads its files and prints its report

-- the report of what is asked, of the bytes of its files in the order in which they were read, and of the
-- commands on standard input
abbrev pub report_from : Asked → (typed : List ℕ) → Texts → Report
report_from asked typed files = report_of asked (inputs_of asked files) typed

-- a call prints a text of the report, or refuses
abbrev pub PrintsReport : {O : Type 0} → (O → Option (List ℕ)) → (O → ℕ) → Report → (before after : O)
    → Result Bool ReportFault → Type 0
PrintsReport taken failures report before after result =
    PrintsOrRefuses taken failures report.IsText report.IsFault before after result

-- what was done, with the status of an answer, and said of it
pub record HasAnswered {O : Type 0} (taken : O → Option (List ℕ)) (failures : O → ℕ) (Says : Saying)
    (report : Report) (before after : O) (status : ℕ) : Type 0 where
  pub answer : Result Bool ReportFault
  pub printed : PrintsReport taken failures report before after answer
  pub said : Says (refusal_of answer)
  pub status_is : status ≡ answer_status answer

module _ {S O : Type 0} (reads : Reading S) (taken : O → Option (List ℕ)) (failures : O → ℕ) (Says : Saying)
    (asked : Asked) (typed : List ℕ) (old new : S) (before after : O) where
  abbrev pub RunsOf : ℕ → Type 0
  RunsOf status =
      Runs reads taken failures Says (λ answer files. (report_from asked typed files).IsText answer)
      (λ files. (report_from asked typed files).IsFault) (names_of asked) old new before after status

-- ## Of a command that writes an image

-- the bytes of an image's file and the report, of the bytes of the files that were read
abbrev pub Imaging : Type 1
Imaging = Texts → (bytes report : List ℕ) → Type 0

module _ {S : Type 0} (reads : Reading S) (writes : Writing S) (asked : Asked) (IsImage : Imaging)
    (old new : S) where
  -- the files were read, their image written, with that result, and the report is this
  pub record HasWritten (written : Result (Unit {0}) StoreFault) (report : List ℕ) : Type 0 where
    pub files : Texts
    pub bytes : List ℕ
    pub between : S
    pub read : ReadsAll reads old (names_of asked) files between
    pub is : IsImage files bytes report
    pub writes_it : writes between asked.word bytes written new

  -- the image's file was written and the report printed
  pub record HasReported (out_old out_new : Option (List ℕ)) : Type 0 where
    pub report : List ℕ
    pub written : HasWritten (Ok tt) report
    pub printed : Appends out_old out_new report

  -- it was written, and the output failed within the report
  pub record FailsToReport (out_old out_new : Option (List ℕ)) (before after : ℕ) : Type 0 where
    pub report : List ℕ
    pub written : HasWritten (Ok tt) report
    pub taken : TakesFront out_old out_new report
    pub failed : FailsSince before after

  -- it could not be written
  pub record FailsToWrite : Type 0 where
    pub report : List ℕ
    pub written : HasWritten (Err store_fault.Device) report

-- What such a command did, by its status: the image's file is written before anything is printed, and neither
-- where what the files hold is refused.
pub record RunsWriting {S O : Type 0} (reads : Reading S) (writes : Writing S) (taken : O → Option (List ℕ))
    (failures : O → ℕ) (Says : Saying) (asked : Asked) (IsImage : Imaging) (IsDenied : Type 0) (old new : S)
    (before after : O) (status : ℕ) : Type 0 where
  pub done : status ≡ 0
      → HasReported reads writes asked IsImage old new (taken before) (taken after) × Says None
  pub denied : status ≡ 1 → IsDenied × (after ≡ before)
  pub failed : status ≡ 4
      → (FailsToReport reads writes asked IsImage old new (taken before) (taken after) (failures before)
      (failures after)
      ⊎ ((FailsToWrite reads writes asked IsImage old new
      ⊎ FailsToRead reads old (names_of asked) store_fault.Device new)
      × (after ≡ before)))
      × Says (Some (codes "Device"))
  pub out_of_memory : status ≡ 3
      → IsOutOfMemory reads (names_of asked) old new × (after ≡ before) × Says (Some (codes "Memory"))
  pub known : (status ≡ 0) ⊎ ((status ≡ 1) ⊎ ((status ≡ 3) ⊎ (status ≡ 4)))

-- what `import` refuses of its files, and standard error says with which fault
pub record HasRefusedParts {S : Type 0} (reads : Reading S) (asked : Asked) (old new : S) (Says : Saying)
    : Type 0 where
  pub files : Texts
  pub read : ReadsAll reads old (names_of asked) files new
  pub fault : ImportFault
  pub not_memory : fault ≢ import_fault.Memory
  pub refused : image_of asked files ≡ Err fault
  pub said : Says (Some (import_fault_text fault))

-- a file is too long, or what they hold is refused
abbrev pub IsRefusedImport : {S : Type 0} → Reading S → Asked → (old new : S) → Saying → Type 0
IsRefusedImport reads asked old new Says =
    (FailsToRead reads old (names_of asked) store_fault.InputTooLong new × Says (Some (codes "InputTooLong")))
    ⊎ HasRefusedParts reads asked old new Says

module _ {S O : Type 0} (reads : Reading S) (writes : Writing S) (taken : O → Option (List ℕ))
    (failures : O → ℕ) (Says : Saying) (asked : Asked) (old new : S) where
  -- `asm SOURCE IMAGE` writes the image of its source
  abbrev pub RunsAsm : (before after : O) → ℕ → Type 0
  RunsAsm = RunsWriting reads writes taken failures Says asked
      (λ files. IsWritten (inputs_of asked files).source)
      (IsRefusedRun reads (names_of asked) old new Says (λ files. (report_from asked [] files).IsFault))
      old new

  -- `import CODE@ADDRESS .. IMAGE` writes that of its files, each at its address, and `import ELF IMAGE` that
  -- of an ELF file
  abbrev pub RunsImport : (before after : O) → ℕ → Type 0
  RunsImport = RunsWriting reads writes taken failures Says asked
      (λ files. IsImported (image_of asked files)) (IsRefusedImport reads asked old new Says) old new

-- ## `debug SOURCE MACHINE`

module _ {S I : Type 0} (reads : Reading S) (remaining : I → Option (List ℕ)) (input_failures : I → ℕ)
    (names : Texts) (old new : S) (input_old input_new : I) where
  -- all files were read, and standard input to its end, which these commands are
  pub record HasReadInput (commands : List ℕ) : Type 0 where
    pub files : Texts
    pub read : ReadsAll reads old names files new
    pub consumed : Consumes (remaining input_old) (remaining input_new) commands
    pub at_end : IsAtEnd (remaining input_new)
    pub few : length commands ≤ MOST_INPUT_BYTES

  -- a file could not be read, and standard input was not
  pub record FailsBeforeInput (Says : Saying) (status : ℕ) : Type 0 where
    pub fault : StoreFault
    pub fails : FailsToRead reads old names fault new
    pub status_is : status ≡ store_status fault
    pub input_unread : input_new ≡ input_old
    pub said : Says (Some (store_fault_name fault))

  -- all files were read, and standard input failed, or is too long, or memory was wanting for it
  pub record FailsToReadInput (Says : Saying) (status : ℕ) : Type 0 where
    pub files : Texts
    pub read : ReadsAll reads old names files new
    pub fault : StoreFault
    pub status_is : status ≡ store_status fault
    pub stops : StopsReading fault (remaining input_old) (remaining input_new) (input_failures input_old)
        (input_failures input_new)
    pub said : Says (Some (store_fault_name fault))

module _ {S I O : Type 0} (reads : Reading S) (remaining : I → Option (List ℕ)) (input_failures : I → ℕ)
    (taken : O → Option (List ℕ)) (failures : O → ℕ) (Says : Saying) (asked : Asked) where
  -- What `debug` did: the files were read, and then standard input to its end, and the session with these
  -- commands is the report.
  abbrev pub RunsDebug : S → S → I → I → O → O → ℕ → Type 0
  RunsDebug old new input_old input_new before after status =
      ((commands : List ℕ)
      × HasReadInput reads remaining input_failures (names_of asked) old new input_old input_new commands
      × RunsOf reads taken failures Says asked commands old new before after status)
      ⊎ ((FailsBeforeInput reads remaining input_failures (names_of asked) old new input_old input_new Says
      status
      ⊎ (FailsToReadInput reads remaining input_failures (names_of asked) old new input_old input_new Says
      status
      ⊎ ((status ≡ 3) × (new ≡ old) × (input_new ≡ input_old) × Says (Some (codes "Memory")))))
      × (after ≡ before))

-- ## Any command

module _ {S I O : Type 0} (reads : Reading S) (writes : Writing S) (remaining : I → Option (List ℕ))
    (input_failures : I → ℕ) (taken : O → Option (List ℕ)) (failures : O → ℕ) (Says : Saying)
    (asked : Asked) where
  abbrev pub RunsBy : Command → S → S → I → I → O → O → ℕ → Type 0
  RunsBy command.Debug old new input_old input_new before after status =
      RunsDebug reads remaining input_failures taken failures Says asked old new input_old input_new before
      after status
  RunsBy command.Asm old new input_old input_new before after status =
      RunsAsm reads writes taken failures Says asked old new before after status × (input_new ≡ input_old)
  RunsBy command.Import old new input_old input_new before after status =
      RunsImport reads writes taken failures Says asked old new before after status × (input_new ≡ input_old)
  RunsBy c old new input_old input_new before after status =
      RunsOf reads taken failures Says asked [] old new before after status × (input_new ≡ input_old)

  -- what was asked for was done; no other command than `debug` reads standard input
  abbrev pub RunsAsked : S → S → I → I → O → O → ℕ → Type 0
  RunsAsked = RunsBy asked.command
