-- What a run of a command did, from what its reads and its call returned.
use Rattle.std.proofs.Common.{◌≡◌, ◌≢◌, ◌∙◌, ◌⊎◌, ℕ, Bool, true, false, codes, List, [], take, Option, Some, None, Result, Ok, Err, OnOk, refl, sym, ap, subst, inl, inr, arith}
use Rattle.std.proofs.KnownBytes.{Appends-nil}
use Rattle.std.specs.Prelude.{OnErr}
use Rattle.std.specs.Result.{IsErrAnd}
use Rattle.known_words.specs.declared.given.Given.{Given}
use Rattle.std.specs.Io.KnownBytes.{Appends}
use Rattle.bus_ticks.specs.declared.profile.Profile.{Profile}
use Rattle.outputs.specs.Output.{FailsSince, TakesFront}
use Rattle.handlers.specs.Answers.{Answers, FailsWithin, OfSome, PrintsOrRefuses}
use Rattle.handlers.specs.FaultText.{TakesOrFails, fault_text, refusal_line}
use Rattle.handlers.specs.Priced.{ByProfile, HasNoProfile, IsUnpriced, Priced, PricedFault}
use Rattle.handlers.specs.declared.fault.ReportFault.{ReportFault}
use Rattle.handlers.specs.declared.fault.ReportFault.TheVariants.{Memory, Source, Image, Statement, Graph, Loops, Walk, MachineFile, Load, Cert, Device}
use Rattle.handlers.specs.declared.fault.ReportFault.TheVariants as report_fault
use Rattle.source_reports.specs.Assembly.{IsSourceRefused, IsWritten}
use Rattle.command_line.specs.Line.{Asked}
use Rattle.command_line.specs.declared.line.Command.{Command}
use Rattle.command_line.specs.declared.line.Command.TheVariants as command
use Rattle.arcwcet.specs.Files.{FailsToRead, Inputs, ReadsAll, Reading, Texts, Writing, inputs_of, names_of, others_in}
use Rattle.arcwcet.specs.Refusals.{Says, SaysRefused, Saying, TakesSome, refusal_of, shows_why, store_fault_name}
use Rattle.arcwcet.specs.Facts.{AreFacts, HasNoFacts}
use Rattle.arcwcet.specs.Reports.{Plain, Report, answered, by_facts, judged, priced, report_by, report_of, unpriced}
use Rattle.arcwcet.specs.Import.{IsImported, image_at, image_of, import_fault_text, import_status}
use Rattle.imports.specs.declared.fault.ImportFault.{ImportFault}
use Rattle.imports.specs.declared.fault.ImportFault.TheVariants as import_fault
use Rattle.arcwcet.specs.Run.{HasAnswered, HasPrinted, HasWritten, Imaging, IsRefusedImport, IsRefusedRun, PrintsReport, Runs, RunsAsm, RunsBy, RunsImport, RunsOf, RunsWriting, answer_status, report_from, report_status, store_status}
use Rattle.arcwcet.specs.declared.fault.StoreFault.{StoreFault}
use Rattle.arcwcet.specs.declared.fault.StoreFault.TheVariants as store_fault

-- how a fault is reported
data ExitOf (fault : ReportFault) : Type 0 where
  of_memory : fault ≡ Memory → ExitOf fault
  of_device : fault ≡ Device → ExitOf fault
  of_other : (fault ≡ Memory → ⊥) → (fault ≡ Device → ⊥) → report_status fault ≡ 1 → ExitOf fault

exit_of : (fault : ReportFault) → ExitOf fault
exit_of Memory = of_memory refl
exit_of Device = of_device refl
exit_of (Source f) = of_other (λ e. cc e) (λ e. cc e) refl
exit_of (Image f) = of_other (λ e. cc e) (λ e. cc e) refl
exit_of (MachineFile f) = of_other (λ e. cc e) (λ e. cc e) refl
exit_of (Load f) = of_other (λ e. cc e) (λ e. cc e) refl
exit_of (report_fault.Profile f) = of_other (λ e. cc e) (λ e. cc e) refl
exit_of report_fault.NotFiqEntry = of_other (λ e. cc e) (λ e. cc e) refl
exit_of report_fault.NoSuchEntry = of_other (λ e. cc e) (λ e. cc e) refl
exit_of report_fault.NotVector = of_other (λ e. cc e) (λ e. cc e) refl
exit_of report_fault.NotReached = of_other (λ e. cc e) (λ e. cc e) refl
exit_of (report_fault.WordsMeet a) = of_other (λ e. cc e) (λ e. cc e) refl
exit_of (report_fault.Given f) = of_other (λ e. cc e) (λ e. cc e) refl
exit_of (report_fault.Dialect f) = of_other (λ e. cc e) (λ e. cc e) refl
exit_of report_fault.NoSuchEdge = of_other (λ e. cc e) (λ e. cc e) refl
exit_of (report_fault.NotFree a) = of_other (λ e. cc e) (λ e. cc e) refl
exit_of (Statement f) = of_other (λ e. cc e) (λ e. cc e) refl
exit_of (Graph f) = of_other (λ e. cc e) (λ e. cc e) refl
exit_of (Loops f) = of_other (λ e. cc e) (λ e. cc e) refl
exit_of (Walk f) = of_other (λ e. cc e) (λ e. cc e) refl
exit_of (Cert f) = of_other (λ e. cc e) (λ e. cc e) refl

-- ## What standard error says

-- what an output did with a text: it took some of it
pub takes_some : {T E : Type 0} (r : Result T E) (old new : Option (List ℕ)) (text : List ℕ) → OnOk r (Appends old new text) → OnErr r (TakesFront old new text) → TakesSome old new
takes_some (Ok x) old new text took front = (text, took)
takes_some (Err e) old new text took (n, few, front) = (take n text, front)

module _ {E : Type 0} (taken : E → Option (List ℕ)) (failures : E → ℕ) (old new : E) where
  pub some_of_line : (text : List ℕ) → TakesOrFails taken failures old new text → TakesSome (taken old) (taken new)
  some_of_line text (inl (took, quiet)) = (text, took)
  some_of_line text (inr ((n, few, front), failed)) = (take n text, front)

  -- the line alone
  line_alone : (why : Bool) (refused : List ℕ) → TakesOrFails taken failures old new (refusal_line refused) → SaysRefused taken failures why old new refused
  line_alone false refused line = line
  line_alone true refused line = (new, line, ([], Appends-nil (taken new)))

  pub says_line : (asked : Asked) (refused : List ℕ) → TakesOrFails taken failures old new (refusal_line refused) → Says taken failures asked old new (Some refused)
  says_line asked refused line = line_alone (shows_why asked) refused line

  -- the line, and then what shows why
  pub says_lines : (asked : Asked) → shows_why asked ≡ true → (refused : List ℕ) → (between : E) → TakesOrFails taken failures old between (refusal_line refused) → TakesSome (taken between) (taken new)
      → Says taken failures asked old new (Some refused)
  says_lines asked shows refused between line more = subst (λ (why : Bool). SaysRefused taken failures why old new refused) (sym shows) (between, line, more)

-- ## What the command did

module _ {S O : Type 0} (reads : Reading S) (taken : O → Option (List ℕ)) (failures : O → ℕ) (Said : Saying)
    (IsRunText : Bool → Texts → List ℕ → Type 0) (IsRunFault : Texts → ReportFault → Type 0) (names : Texts) (old new : S) (before after : O) where
  abbrev Ran : ℕ → Type 0
  Ran status = Runs reads taken failures Said IsRunText IsRunFault names old new before after status

  -- a file could not be read
  unread_by : (fault : StoreFault) → FailsToRead reads old names fault new → after ≡ before → Said (Some (store_fault_name fault)) → Ran (store_status fault)
  unread_by store_fault.Memory fails same said = record {
    done = λ e. absurd (omega (arith, e));
    denied = λ e. absurd (omega (arith, e));
    failed = λ e. absurd (omega (arith, e));
    out_of_memory = λ e. (inr (inl fails), same, said);
    known = inr (inr (inl refl));
  }
  unread_by store_fault.Device fails same said = record {
    done = λ e. absurd (omega (arith, e));
    denied = λ e. absurd (omega (arith, e));
    failed = λ e. (inl (fails, same), said);
    out_of_memory = λ e. absurd (omega (arith, e));
    known = inr (inr (inr refl));
  }
  unread_by store_fault.InputTooLong fails same said = record {
    done = λ e. absurd (omega (arith, e));
    denied = λ e. inr (inl (fails, said), same);
    failed = λ e. absurd (omega (arith, e));
    out_of_memory = λ e. absurd (omega (arith, e));
    known = inr (inl refl);
  }

  pub unread : (fault : StoreFault) → FailsToRead reads old names fault new → after ≡ before → Said (Some (store_fault_name fault)) → (status : ℕ) → status ≡ store_status fault → Ran status
  unread fault fails same said status is = subst Ran (sym is) (unread_by fault fails same said)

  module _ (files : Texts) (read : ReadsAll reads old names files new) where
    abbrev Printed : Bool → Type 0
    Printed answer = HasPrinted reads names old new (IsRunText answer) (taken before) (taken after)

    -- the text was printed
    pub done : Printed true → Said None → Ran 0
    done printed quiet = record {
      done = λ e. (printed, quiet);
      denied = λ e. absurd (omega (arith, e));
      failed = λ e. absurd (omega (arith, e));
      out_of_memory = λ e. absurd (omega (arith, e));
      known = inl refl;
    }

    pub denied : Printed false → Said None → Ran 1
    denied printed quiet = record {
      done = λ e. absurd (omega (arith, e));
      denied = λ e. inl (printed, quiet);
      failed = λ e. absurd (omega (arith, e));
      out_of_memory = λ e. absurd (omega (arith, e));
      known = inr (inl refl);
    }

    -- what the files hold is refused, or the output fails
    pub refused : (fault : ReportFault) → IsRunFault files fault → ((fault ≡ Device → ⊥) → after ≡ before)
        → (fault ≡ Device → FailsWithin (OfSome (λ answer. IsRunText answer files)) (taken before) (taken after) (failures before) (failures after))
        → Said (Some (fault_text fault)) → (status : ℕ) → status ≡ report_status fault → Ran status
    refused fault holds quiet device said status is =
        elim (exit_of fault) [
          | of_memory m ↦
              let three : status ≡ 3 = is ∙ ap report_status m in
              let same : after ≡ before = quiet (λ d. let both : Memory ≡ Device = sym m ∙ d in cc both) in
              record {
                done = λ e. absurd (omega (arith, e, three));
                denied = λ e. absurd (omega (arith, e, three));
                failed = λ e. absurd (omega (arith, e, three));
                out_of_memory = λ e. (inr (inr (record { files = files; read = read })), same, subst (λ (f : ReportFault). Said (Some (fault_text f))) m said);
                known = inr (inr (inl three));
              }
          | of_device d ↦
              let four : status ≡ 4 = is ∙ ap report_status d in
              record {
                done = λ e. absurd (omega (arith, e, four));
                denied = λ e. absurd (omega (arith, e, four));
                failed = λ e. (inr (record { files = files; read = read; fails = device d }), subst (λ (f : ReportFault). Said (Some (fault_text f))) d said);
                out_of_memory = λ e. absurd (omega (arith, e, four));
                known = inr (inr (inr four));
              }
          | of_other memory other one ↦
              let here : status ≡ 1 = is ∙ one in
              record {
                done = λ e. absurd (omega (arith, e, here));
                denied = λ e. inr (inr (record { files = files; read = read; fault = fault; not_memory = memory; not_device = other; refused = holds; said = said }), quiet other);
                failed = λ e. absurd (omega (arith, e, here));
                out_of_memory = λ e. absurd (omega (arith, e, here));
                known = inr (inl here);
              }
        ]

    -- what the report answers
    pub answered_ran : (result : Result Bool ReportFault) → PrintsOrRefuses taken failures (λ answer. IsRunText answer files) (IsRunFault files) before after result
        → Said (refusal_of result) → (status : ℕ) → status ≡ answer_status result → Ran status
    answered_ran (Ok true) h said status is = subst Ran (sym is) (done (record { files = files; read = read; printed = h.printed }) said)
    answered_ran (Ok false) h said status is = subst Ran (sym is) (denied (record { files = files; read = read; printed = h.printed }) said)
    answered_ran (Err fault) h said status is = refused fault h.fault h.quiet (λ d. h.device (ap Err d)) said status is

-- ## Of a command that reads its files and prints its report

module _ {S O : Type 0} (reads : Reading S) (taken : O → Option (List ℕ)) (failures : O → ℕ) (Said : Saying) (asked : Asked) (typed : List ℕ) (old new : S) where
  abbrev IsTextOf : Bool → Texts → List ℕ → Type 0
  IsTextOf answer files = (report_from asked typed files).IsText answer

  abbrev IsFaultOf : Texts → ReportFault → Type 0
  IsFaultOf files = (report_from asked typed files).IsFault

  -- the files were read, and the report of them answered
  pub ran_of : (before after : O) (files : Texts) (i : Inputs) → i ≡ inputs_of asked files → ReadsAll reads old (names_of asked) files new → (status : ℕ)
      → HasAnswered taken failures Said (report_of asked i typed) before after status → RunsOf reads taken failures Said asked typed old new before after status
  ran_of before after files i split read status h =
      answered_ran reads taken failures Said IsTextOf IsFaultOf (names_of asked) old new before after files read h.answer
      (subst (λ (j : Inputs). PrintsReport taken failures (report_of asked j typed) before after h.answer) split h.printed) h.said status h.status_is

  -- a file could not be read
  pub unread_of : (out : O) (fault : StoreFault) → FailsToRead reads old (names_of asked) fault new → Said (Some (store_fault_name fault)) → (status : ℕ) → status ≡ store_status fault
      → RunsOf reads taken failures Said asked typed old new out out status
  unread_of out fault fails = unread reads taken failures Said IsTextOf IsFaultOf (names_of asked) old new out out fault fails refl

-- ## Of a command that writes an image

-- nothing was printed
abbrev pub Nothing : Bool → Texts → List ℕ → Type 0
Nothing answer files text = ⊥

module _ {S O : Type 0} (reads : Reading S) (writes : Writing S) (taken : O → Option (List ℕ)) (failures : O → ℕ) (Said : Saying) (asked : Asked) (IsImage : Imaging) (IsDenied : Type 0) (old new : S) where
  abbrev pub Wrote : (before after : O) → ℕ → Type 0
  Wrote = RunsWriting reads writes taken failures Said asked IsImage IsDenied old new

  pub written_quiet : (IsFault : Texts → ReportFault → Type 0) → (IsRefusedRun reads (names_of asked) old new Said IsFault → IsDenied)
      → (out : O) (status : ℕ) → Runs reads taken failures Said Nothing IsFault (names_of asked) old new out out status → Wrote out out status
  written_quiet IsFault denies out status r = record {
    done = λ e. absurd (r.done e).0.printed.is_text;
    denied = λ e. elim (r.denied e) [
      | inl printed ↦ absurd printed.0.printed.is_text
      | inr refused ↦ (denies refused.0, refused.1)
    ];
    failed = λ e. elim (r.failed e).0 [
      | inl unread ↦ (inr (inr unread.0, unread.1), (r.failed e).1)
      | inr printed ↦ absurd printed.fails.is_text.1
    ];
    out_of_memory = r.out_of_memory;
    known = r.known;
  }

  module _ (files : Texts) (between : S) (read : ReadsAll reads old (names_of asked) files between) (bytes report : List ℕ) (image : IsImage files bytes report) where
    has_written : (written : Result (Unit {0}) StoreFault) → writes between asked.word bytes written new → HasWritten reads writes asked IsImage old new written report
    has_written written h = record { files = files; bytes = bytes; between = between; read = read; is = image; writes_it = h }

    -- the image's file could not be written
    pub unwritten : (out : O) (fault : StoreFault) → fault ≡ store_fault.Device → writes between asked.word bytes (Err fault) new → Said (Some (store_fault_name fault)) → (status : ℕ) → status ≡ store_status fault
        → Wrote out out status
    unwritten out fault device h said status is =
        let four : status ≡ 4 = is ∙ ap store_status device in
        let written : HasWritten reads writes asked IsImage old new (Err store_fault.Device) report = has_written (Err store_fault.Device) (subst (λ (f : StoreFault). writes between asked.word bytes (Err f) new) device h) in
        record {
          done = λ e. absurd (omega (arith, e, four));
          denied = λ e. absurd (omega (arith, e, four));
          failed = λ e. (inr (inl (record { report = report; written = written }), refl), subst (λ (f : StoreFault). Said (Some (store_fault_name f))) device said);
          out_of_memory = λ e. absurd (omega (arith, e, four));
          known = inr (inr (inr four));
        }

    module _ (h : writes between asked.word bytes (Ok tt) new) (before after : O) where
      -- the report was printed
      pub written_done : Appends (taken before) (taken after) report → Said None → Wrote before after 0
      written_done printed said = record {
        done = λ e. (record { report = report; written = has_written (Ok tt) h; printed = printed }, said);
        denied = λ e. absurd (omega (arith, e));
        failed = λ e. absurd (omega (arith, e));
        out_of_memory = λ e. absurd (omega (arith, e));
        known = inl refl;
      }

      -- the output failed within it
      pub unprinted : TakesFront (taken before) (taken after) report → FailsSince (failures before) (failures after) → Said (Some (codes "Device")) → (status : ℕ) → status ≡ 4
          → Wrote before after status
      unprinted front failed said status four = record {
        done = λ e. absurd (omega (arith, e, four));
        denied = λ e. absurd (omega (arith, e, four));
        failed = λ e. (inl (record { report = report; written = has_written (Ok tt) h; taken = front; failed = failed }), said);
        out_of_memory = λ e. absurd (omega (arith, e, four));
        known = inr (inr (inr four));
      }

-- ## `asm`

module _ {S O : Type 0} (reads : Reading S) (writes : Writing S) (taken : O → Option (List ℕ)) (failures : O → ℕ) (Said : Saying) (asked : Asked) (old new : S) where
  abbrev IsAsmFault : Texts → ReportFault → Type 0
  IsAsmFault files = (report_from asked [] files).IsFault

  abbrev IsAsmImage : Imaging
  IsAsmImage files = IsWritten (inputs_of asked files).source

  abbrev IsAsmDenied : Type 0
  IsAsmDenied = IsRefusedRun reads (names_of asked) old new Said IsAsmFault

  pub asm_quiet : (out : O) (status : ℕ) → Runs reads taken failures Said Nothing IsAsmFault (names_of asked) old new out out status → RunsAsm reads writes taken failures Said asked old new out out status
  asm_quiet = written_quiet reads writes taken failures Said asked IsAsmImage IsAsmDenied old new IsAsmFault (λ refused. refused)

  -- the source could not be read
  pub asm_unread : (out : O) (fault : StoreFault) → FailsToRead reads old (names_of asked) fault new → Said (Some (store_fault_name fault)) → (status : ℕ) → status ≡ store_status fault
      → RunsAsm reads writes taken failures Said asked old new out out status
  asm_unread out fault fails said status is =
      asm_quiet out status (unread reads taken failures Said Nothing IsAsmFault (names_of asked) old new out out fault fails refl said status is)

  module _ (files : Texts) where
    -- the source is refused
    pub asm_refused : (out : O) → ReadsAll reads old (names_of asked) files new → asked.command ≡ command.Asm → (i : Inputs) → i ≡ inputs_of asked files → (fault : ReportFault) → (fault ≢ Device) × IsSourceRefused i.source fault
        → Said (Some (fault_text fault)) → (status : ℕ) → status ≡ report_status fault → RunsAsm reads writes taken failures Said asked old new out out status
    unfolding report_by
    asm_refused out read is_asm i split fault holds said status is =
        let of_asm : IsSourceRefused (inputs_of asked files).source fault = subst (λ (j : Inputs). IsSourceRefused j.source fault) split holds.1 in
        asm_quiet out status
        (refused reads taken failures Said Nothing IsAsmFault (names_of asked) old new out out files read fault
        (subst (λ (k : Command). (report_by asked (inputs_of asked files) [] k).IsFault fault) (sym is_asm) of_asm) (λ other. refl) (λ d. absurd (holds.0 d)) said status is)

    module _ (between : S) (read : ReadsAll reads old (names_of asked) files between) (i : Inputs) (split : i ≡ inputs_of asked files) (bytes report : List ℕ) (image : IsWritten i.source bytes report) where
      asm_image : IsAsmImage files bytes report
      asm_image = subst (λ (j : Inputs). IsWritten j.source bytes report) split image

      -- the image's file could not be written
      pub asm_unwritten : (out : O) (fault : StoreFault) → fault ≡ store_fault.Device → writes between asked.word bytes (Err fault) new → Said (Some (store_fault_name fault)) → (status : ℕ) → status ≡ store_status fault
          → RunsAsm reads writes taken failures Said asked old new out out status
      asm_unwritten = unwritten reads writes taken failures Said asked IsAsmImage IsAsmDenied old new files between read bytes report asm_image

      module _ (h : writes between asked.word bytes (Ok tt) new) (before after : O) where
        -- the report was printed
        pub asm_done : Appends (taken before) (taken after) report → Said None → RunsAsm reads writes taken failures Said asked old new before after 0
        asm_done = written_done reads writes taken failures Said asked IsAsmImage IsAsmDenied old new files between read bytes report asm_image h before after

        -- the output failed within it
        pub asm_unprinted : TakesFront (taken before) (taken after) report → FailsSince (failures before) (failures after) → Said (Some (codes "Device")) → (status : ℕ) → status ≡ 4
            → RunsAsm reads writes taken failures Said asked old new before after status
        asm_unprinted = unprinted reads writes taken failures Said asked IsAsmImage IsAsmDenied old new files between read bytes report asm_image h before after

-- ## `import`

-- how a fault is reported
data ImportExit (fault : ImportFault) : Type 0 where
  by_memory : fault ≡ import_fault.Memory → ImportExit fault
  by_other : (fault ≡ import_fault.Memory → ⊥) → import_status fault ≡ 1 → ImportExit fault

import_exit : (fault : ImportFault) → ImportExit fault
import_exit import_fault.Memory = by_memory refl
import_exit import_fault.TooManyParts = by_other (λ e. cc e) refl
import_exit (import_fault.Misaligned a) = by_other (λ e. cc e) refl
import_exit (import_fault.OutOfRange a) = by_other (λ e. cc e) refl
import_exit (import_fault.Overlap a) = by_other (λ e. cc e) refl
import_exit (import_fault.TooLong a) = by_other (λ e. cc e) refl
import_exit import_fault.NotElf = by_other (λ e. cc e) refl
import_exit import_fault.AcornObject = by_other (λ e. cc e) refl
import_exit import_fault.HeaderCut = by_other (λ e. cc e) refl
import_exit import_fault.Not32Bit = by_other (λ e. cc e) refl
import_exit import_fault.NotLittleEndian = by_other (λ e. cc e) refl
import_exit import_fault.NotVersion1 = by_other (λ e. cc e) refl
import_exit import_fault.NotArm = by_other (λ e. cc e) refl
import_exit import_fault.NotExecutable = by_other (λ e. cc e) refl
import_exit import_fault.BadEntrySize = by_other (λ e. cc e) refl
import_exit import_fault.TableOutside = by_other (λ e. cc e) refl
import_exit import_fault.NoSegment = by_other (λ e. cc e) refl
import_exit (import_fault.SegmentOutside a) = by_other (λ e. cc e) refl

-- of the files but for a cycle profile's
module _ (asked : Asked) (files others : Texts) (places : List (Option ℕ)) (same : places ≡ asked.places) (split : others ≡ others_in asked.profile files) where
  pub import_of : (bytes report : List ℕ) → IsImported (image_at places others) bytes report → IsImported (image_of asked files) bytes report
  import_of bytes report is =
      subst (λ (o : Texts). IsImported (image_at asked.places o) bytes report) split
      (subst (λ (p : List (Option ℕ)). IsImported (image_at p others) bytes report) same is)

  pub import_refused_of : (fault : ImportFault) → (fault ≡ import_fault.Memory) ⊎ (image_at places others ≡ Err fault) → (fault ≡ import_fault.Memory) ⊎ (image_of asked files ≡ Err fault)
  import_refused_of fault holds =
      subst (λ (o : Texts). (fault ≡ import_fault.Memory) ⊎ (image_at asked.places o ≡ Err fault)) split
      (subst (λ (p : List (Option ℕ)). (fault ≡ import_fault.Memory) ⊎ (image_at p others ≡ Err fault)) same holds)

module _ {S O : Type 0} (reads : Reading S) (writes : Writing S) (taken : O → Option (List ℕ)) (failures : O → ℕ) (Said : Saying) (asked : Asked) (old new : S) where
  abbrev pub IsImportImage : Imaging
  IsImportImage files = IsImported (image_of asked files)

  abbrev IsImportDenied : Type 0
  IsImportDenied = IsRefusedImport reads asked old new Said

  -- none of a report's faults
  abbrev pub NoFault : Texts → ReportFault → Type 0
  NoFault files fault = ⊥

  too_long : IsRefusedRun reads (names_of asked) old new Said NoFault → IsImportDenied
  too_long (inl long) = inl long
  too_long (inr refused) = absurd refused.refused

  pub import_quiet : (out : O) (status : ℕ) → Runs reads taken failures Said Nothing NoFault (names_of asked) old new out out status → RunsImport reads writes taken failures Said asked old new out out status
  import_quiet = written_quiet reads writes taken failures Said asked IsImportImage IsImportDenied old new NoFault too_long

  -- a file could not be read
  pub import_unread : (out : O) (fault : StoreFault) → FailsToRead reads old (names_of asked) fault new → Said (Some (store_fault_name fault)) → (status : ℕ) → status ≡ store_status fault
      → RunsImport reads writes taken failures Said asked old new out out status
  import_unread out fault fails said status is =
      import_quiet out status (unread reads taken failures Said Nothing NoFault (names_of asked) old new out out fault fails refl said status is)

  -- what they hold is refused
  pub import_refused : (files : Texts) (out : O) → ReadsAll reads old (names_of asked) files new → (fault : ImportFault) → (fault ≡ import_fault.Memory) ⊎ (image_of asked files ≡ Err fault)
      → Said (Some (import_fault_text fault)) → (status : ℕ) → status ≡ import_status fault → RunsImport reads writes taken failures Said asked old new out out status
  import_refused files out read fault holds said status is = elim (import_exit fault) [
    | by_memory m ↦
        let three : status ≡ 3 = is ∙ ap import_status m in
        record {
          done = λ e. absurd (omega (arith, e, three));
          denied = λ e. absurd (omega (arith, e, three));
          failed = λ e. absurd (omega (arith, e, three));
          out_of_memory = λ e. (inr (inr (record { files = files; read = read })), refl, subst (λ (f : ImportFault). Said (Some (import_fault_text f))) m said);
          known = inr (inr (inl three));
        }
    | by_other memory one ↦
        let here : status ≡ 1 = is ∙ one in
        let refused : image_of asked files ≡ Err fault = elim holds [ inl m ↦ absurd (memory m) | inr refused ↦ refused ] in
        record {
          done = λ e. absurd (omega (arith, e, here));
          denied = λ e. (inr (record { files = files; read = read; fault = fault; not_memory = memory; refused = refused; said = said }), refl);
          failed = λ e. absurd (omega (arith, e, here));
          out_of_memory = λ e. absurd (omega (arith, e, here));
          known = inr (inl here);
        }
  ]

  module _ (files : Texts) (between : S) (read : ReadsAll reads old (names_of asked) files between) (bytes report : List ℕ) (image : IsImportImage files bytes report) where
    pub import_unwritten : (out : O) (fault : StoreFault) → fault ≡ store_fault.Device → writes between asked.word bytes (Err fault) new → Said (Some (store_fault_name fault)) → (status : ℕ) → status ≡ store_status fault
        → RunsImport reads writes taken failures Said asked old new out out status
    import_unwritten = unwritten reads writes taken failures Said asked IsImportImage IsImportDenied old new files between read bytes report image

    module _ (h : writes between asked.word bytes (Ok tt) new) (before after : O) where
      pub import_done : Appends (taken before) (taken after) report → Said None → RunsImport reads writes taken failures Said asked old new before after 0
      import_done = written_done reads writes taken failures Said asked IsImportImage IsImportDenied old new files between read bytes report image h before after

      pub import_unprinted : TakesFront (taken before) (taken after) report → FailsSince (failures before) (failures after) → Said (Some (codes "Device")) → (status : ℕ) → status ≡ 4
          → RunsImport reads writes taken failures Said asked old new before after status
      import_unprinted = unprinted reads writes taken failures Said asked IsImportImage IsImportDenied old new files between read bytes report image h before after

-- ## What a report answers, of the texts of its files

module _ {O : Type 0} (taken : O → Option (List ℕ)) (failures : O → ℕ) (before after : O) where
  -- a text that is all there is to say is one of yes
  pub answers_plain : (Is : List ℕ → Type 0) (IsFine : Type 0) (IsFault : ReportFault → Type 0) (result : Result (Unit {0}) ReportFault)
      → Answers taken failures (λ _ text. Is text) IsFine IsFault before after result → Answers taken failures (Plain Is) IsFine IsFault before after (answered result)
  answers_plain Is IsFine IsFault (Ok x) h =
      let p = h.output.printed in
      record {
        output = record {
          printed = record { text = p.text; is_text = p.is_text; printed = p.printed };
          fault = tt;
          quiet = tt;
          device = λ e. cc e;
        };
        accepted = h.accepted;
        only = λ a. tt;
      }
  answers_plain Is IsFine IsFault (Err fault) h = record {
    output = record {
      printed = tt;
      fault = h.output.fault;
      quiet = h.output.quiet;
      device = λ e.
          let same : fault ≡ Device = cc e in
          let f = h.output.device (ap Err same) in
          record { text = f.text; is_text = (true, f.is_text.1); taken = f.taken; failed = f.failed };
    };
    accepted = tt;
    only = h.only;
  }

  pub priced_plain : (file : Option (List ℕ)) (Is : Profile → List ℕ → Type 0) (IsFine : Profile → Type 0) (IsFault : Profile → ReportFault → Type 0) (result : Result (Unit {0}) ReportFault)
      → Priced file (λ p. Answers taken failures (λ _ text. Is p text) (IsFine p) (IsFault p) before after result) before after result
      → (answer : Result Bool ReportFault) → answer ≡ answered result → Priced file (λ p. Answers taken failures (Plain (Is p)) (IsFine p) (IsFault p) before after answer) before after answer
  priced_plain file Is IsFine IsFault result h answer is =
      subst (λ (r : Result Bool ReportFault). Priced file (λ p. Answers taken failures (Plain (Is p)) (IsFine p) (IsFault p) before after r) before after r) (sym is) (plain h)
    where
      plain : Priced file (λ p. Answers taken failures (λ _ text. Is p text) (IsFine p) (IsFault p) before after result) before after result
          → Priced file (λ p. Answers taken failures (Plain (Is p)) (IsFine p) (IsFault p) before after (answered result)) before after (answered result)
      plain (inl b) = inl (record { profile = b.profile; is = b.is; holds = answers_plain (Is b.profile) (IsFine b.profile) (IsFault b.profile) result b.holds })
      plain (inr u) = inr (record { fault = u.fault; no_profile = u.no_profile; answered = ap answered u.answered; same = u.same })

  module _ (IsPrinted : Bool → List ℕ → Type 0) (IsRefused : ReportFault → Type 0) where
    pub answered_answer : (IsText : Bool → List ℕ → Type 0) (IsFine : Type 0) (IsFault : ReportFault → Type 0)
        → ((x : Bool) (text : List ℕ) → IsText x text → IsPrinted x text) → ((fault : ReportFault) → IsFault fault → IsRefused fault)
        → (result : Result Bool ReportFault) → Answers taken failures IsText IsFine IsFault before after result → PrintsOrRefuses taken failures IsPrinted IsRefused before after result
    answered_answer IsText IsFine IsFault texts faults (Ok x) h =
        let p = h.output.printed in
        record {
          printed = record { text = p.text; is_text = texts x p.text p.is_text; printed = p.printed };
          fault = tt;
          quiet = tt;
          device = λ e. cc e;
        }
    answered_answer IsText IsFine IsFault texts faults (Err fault) h = record {
      printed = tt;
      fault = faults fault h.output.fault;
      quiet = h.output.quiet;
      device = λ e.
          let f = h.output.device e in
          record { text = f.text; is_text = (f.is_text.0, texts f.is_text.0 f.text f.is_text.1); taken = f.taken; failed = f.failed };
    }

    module _ (file : Option (List ℕ)) (faults : (fault : ReportFault) → HasNoProfile file fault → IsRefused fault) where
      no_device : (f : Option (List ℕ)) → HasNoProfile f Device → ⊥
      no_device None h = h
      no_device (Some t) h = h

      answered_unpriced : (result : Result Bool ReportFault) → IsUnpriced file before after result → PrintsOrRefuses taken failures IsPrinted IsRefused before after result
      answered_unpriced (Ok x) u = absurd (cc u.answered)
      answered_unpriced (Err fault) u =
          let same : u.fault ≡ fault = cc u.answered in
          let none : HasNoProfile file fault = subst (HasNoProfile file) same u.no_profile in
          record {
            printed = tt;
            fault = faults fault none;
            quiet = λ other. u.same;
            device = λ e.
                let here : fault ≡ Device = cc e in
                absurd (no_device file (subst (HasNoProfile file) here none));
          }

    pub answered_priced : (file : Option (List ℕ)) (IsText : Profile → Bool → List ℕ → Type 0) (IsFine : Profile → Type 0) (IsFault : Profile → ReportFault → Type 0)
        → ((x : Bool) (text : List ℕ) → ByProfile file (λ p. IsText p x text) → IsPrinted x text) → ((fault : ReportFault) → PricedFault file IsFault fault → IsRefused fault)
        → (result : Result Bool ReportFault) → Priced file (λ p. Answers taken failures (IsText p) (IsFine p) (IsFault p) before after result) before after result
        → PrintsOrRefuses taken failures IsPrinted IsRefused before after result
    answered_priced file IsText IsFine IsFault texts faults result (inl b) =
        answered_answer (IsText b.profile) (IsFine b.profile) (IsFault b.profile)
        (λ x text is. texts x text (record { profile = b.profile; is = b.is; holds = is }))
        (λ fault is. faults fault (inl (record { profile = b.profile; is = b.is; holds = is }))) result b.holds
    answered_priced file IsText IsFine IsFault texts faults result (inr u) = answered_unpriced file (λ fault none. faults fault (inr none)) result u

  -- a report that takes no cycle profile
  pub answered_unpriced_report : (Is : List ℕ → Type 0) (IsFine : Type 0) (IsFault : ReportFault → Type 0) (result : Result (Unit {0}) ReportFault)
      → Answers taken failures (λ _ text. Is text) IsFine IsFault before after result → (answer : Result Bool ReportFault) → answer ≡ answered result → PrintsReport taken failures (unpriced Is IsFault) before after answer
  answered_unpriced_report Is IsFine IsFault result h answer is =
      subst (λ (r : Result Bool ReportFault). PrintsReport taken failures (unpriced Is IsFault) before after r) (sym is)
      (answered_answer (Plain Is) IsFault (Plain Is) IsFine IsFault (λ x text t. t) (λ fault t. t) (answered result) (answers_plain Is IsFine IsFault result h))

  -- one that takes one
  pub answered_judged : (file : Option (List ℕ)) (Is : Profile → Bool → List ℕ → Type 0) (IsFine : Profile → Type 0) (IsFault : Profile → ReportFault → Type 0) (result : Result Bool ReportFault)
      → Priced file (λ p. Answers taken failures (Is p) (IsFine p) (IsFault p) before after result) before after result → PrintsReport taken failures (judged file Is IsFault) before after result
  answered_judged file Is IsFine IsFault =
      answered_priced (λ answer text. ByProfile file (λ p. Is p answer text)) (PricedFault file IsFault) file Is IsFine IsFault (λ x text b. b) (λ fault k. k)

  pub answered_yes : (file : Option (List ℕ)) (Is : Profile → List ℕ → Type 0) (IsFine : Profile → Type 0) (IsFault : Profile → ReportFault → Type 0) (result : Result (Unit {0}) ReportFault)
      → Priced file (λ p. Answers taken failures (λ _ text. Is p text) (IsFine p) (IsFault p) before after result) before after result
      → (answer : Result Bool ReportFault) → answer ≡ answered result → PrintsReport taken failures (priced file Is IsFault) before after answer
  answered_yes file Is IsFine IsFault result h answer is =
      answered_judged file (λ p. Plain (Is p)) IsFine IsFault answer (priced_plain file Is IsFine IsFault result h answer is)

  -- ## By facts

  module _ (file : Option (List ℕ)) (of_facts : List Given → Report) where
    -- by those that were read
    pub with_facts : (facts : List Given) → AreFacts file facts → (answer : Result Bool ReportFault) → PrintsReport taken failures (of_facts facts) before after answer → PrintsReport taken failures (by_facts file of_facts) before after answer
    with_facts facts are (Ok x) h =
        let p = h.printed in
        record {
          printed = record { text = p.text; is_text = record { facts = facts; are = are; holds = p.is_text }; printed = p.printed };
          fault = tt;
          quiet = tt;
          device = λ e. cc e;
        }
    with_facts facts are (Err fault) h = record {
      printed = tt;
      fault = inl (record { facts = facts; are = are; holds = h.fault });
      quiet = h.quiet;
      device = λ e.
          let f = h.device e in
          record { text = f.text; is_text = (f.is_text.0, record { facts = facts; are = are; holds = f.is_text.1 }); taken = f.taken; failed = f.failed };
    }

    no_facts_by_device : (f : Option (List ℕ)) → HasNoFacts f Device → ⊥
    no_facts_by_device None h = h
    no_facts_by_device (Some t) h = h

    -- where none were read
    pub without_facts : after ≡ before → (fault : ReportFault) → HasNoFacts file fault → (answer : Result Bool ReportFault) → IsErrAnd answer (λ e. e ≡ fault) → PrintsReport taken failures (by_facts file of_facts) before after answer
    without_facts same fault none (Ok x) is = absurd is
    without_facts same fault none (Err e) is = record {
      printed = tt;
      fault = inr (subst (HasNoFacts file) (sym is) none);
      quiet = λ other. same;
      device = λ d.
          let here : e ≡ Device = cc d in
          absurd (no_facts_by_device file (subst (HasNoFacts file) (sym is ∙ here) none));
    }

  -- the same answer by another name
  pub same_answer : (report : Report) (answer other : Result Bool ReportFault) → other ≡ answer → PrintsReport taken failures report before after answer → PrintsReport taken failures report before after other
  same_answer report answer other is h = subst (λ (r : Result Bool ReportFault). PrintsReport taken failures report before after r) (sym is) h

-- ## Any command

module _ {S I O : Type 0} (reads : Reading S) (writes : Writing S) (remaining : I → Option (List ℕ)) (input_failures : I → ℕ) (taken : O → Option (List ℕ)) (failures : O → ℕ) (Said : Saying) (asked : Asked) where
  module _ (old new : S) (input_old input_new : I) (before after : O) (status : ℕ) where
    abbrev pub RunsAs : Command → Type 0
    RunsAs c = RunsBy reads writes remaining input_failures taken failures Said asked c old new input_old input_new before after status

    -- a command, by its own form if it has one
    pub by_form : (c : Command) → (c ≡ command.Asm → RunsAs command.Asm) → (c ≡ command.Import → RunsAs command.Import) → (c ≡ command.Debug → RunsAs command.Debug)
        → RunsOf reads taken failures Said asked [] old new before after status × (input_new ≡ input_old) → RunsAs c
    by_form command.Asm asm import debug plain = asm refl
    by_form command.Import asm import debug plain = import refl
    by_form command.Debug asm import debug plain = debug refl
    by_form command.Version asm import debug plain = plain
    by_form command.List asm import debug plain = plain
    by_form command.Plain asm import debug plain = plain
    by_form command.Draft asm import debug plain = plain
    by_form command.DraftOn asm import debug plain = plain
    by_form command.Run asm import debug plain = plain
    by_form command.RunTo asm import debug plain = plain
    by_form command.Trace asm import debug plain = plain
    by_form command.TraceTo asm import debug plain = plain
    by_form command.Vectors asm import debug plain = plain
    by_form command.Bound asm import debug plain = plain
    by_form command.Tight asm import debug plain = plain
    by_form command.Check asm import debug plain = plain
    by_form command.Visits asm import debug plain = plain
    by_form command.Respond asm import debug plain = plain
    by_form command.Explain asm import debug plain = plain
    by_form command.Verdict asm import debug plain = plain
    by_form command.Justify asm import debug plain = plain
    by_form command.Follow asm import debug plain = plain
    by_form command.FollowVisits asm import debug plain = plain
    by_form command.Graph asm import debug plain = plain

  -- a file could not be read
  pub asked_unread : (old new : S) (input : I) (out : O) (fault : StoreFault) → FailsToRead reads old (names_of asked) fault new → Said (Some (store_fault_name fault)) → (status : ℕ) → status ≡ store_status fault
      → RunsAs old new input input out out status asked.command
  asked_unread old new input out fault fails said status is =
      by_form old new input input out out status asked.command
      (λ e. (asm_unread reads writes taken failures Said asked old new out fault fails said status is, refl))
      (λ e. (import_unread reads writes taken failures Said asked old new out fault fails said status is, refl))
      (λ e. (inr (inl (record { fault = fault; fails = fails; status_is = is; input_unread = refl; said = said }), refl)))
      (unread_of reads taken failures Said asked [] old new out fault fails said status is, refl)

  -- ## Without memory for the words, or for a list of the files

  module _ (said : Said (Some (codes "Memory"))) (store : S) (input : I) (out : O) where
    run_out_of_memory : (IsText : Bool → Texts → List ℕ → Type 0) (IsFault : Texts → ReportFault → Type 0) → Runs reads taken failures Said IsText IsFault (names_of asked) store store out out 3
    run_out_of_memory IsText IsFault = record {
      done = λ e. absurd (omega (arith, e));
      denied = λ e. absurd (omega (arith, e));
      failed = λ e. absurd (omega (arith, e));
      out_of_memory = λ e. (inl refl, refl, said);
      known = inr (inr (inl refl));
    }

    pub asked_out_of_memory : RunsAs store store input input out out 3 asked.command
    asked_out_of_memory =
        by_form store store input input out out 3 asked.command
        (λ e. (asm_quiet reads writes taken failures Said asked store store out 3 (run_out_of_memory Nothing (IsAsmFault reads writes taken failures Said asked store store)), refl))
        (λ e. (import_quiet reads writes taken failures Said asked store store out 3 (run_out_of_memory Nothing (NoFault reads writes taken failures Said asked store store)), refl))
        (λ e. (inr (inr (inr (refl, refl, refl, said)), refl)))
        (run_out_of_memory (IsTextOf reads taken failures Said asked [] store store) (IsFaultOf reads taken failures Said asked [] store store), refl)

    pub asked_without_memory : (new : S) → new ≡ store → (status : ℕ) → status ≡ 3 → RunsAs store new input input out out status asked.command
    asked_without_memory new same status three =
        subst (λ (s : S). RunsAs store s input input out out status asked.command) (sym same)
        (subst (λ (n : ℕ). RunsAs store store input input out out n asked.command) (sym three) asked_out_of_memory)
