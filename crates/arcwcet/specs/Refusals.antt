-- What standard error takes of a refusal.
use Rattle.std.specs.Prelude.{◌≡◌, ◌++◌, ℕ, Bool, true, false, List, codes, Option, Some, None, Result}
use Rattle.std.specs.Prelude.{Ok, Err}
use Rattle.std.specs.Io.KnownBytes.{Appends}
use Rattle.command_line.specs.Line.{Asked}
use Rattle.command_line.specs.declared.line.Command.{Command}
use Rattle.command_line.specs.declared.line.Command.TheVariants as command
use Rattle.handlers.specs.FaultText.{TakesOrFails, fault_text, refusal_line}
use Rattle.handlers.specs.declared.fault.ReportFault.{ReportFault}
use Rattle.arcwcet.specs.declared.fault.FileFault.{FileFault}
use Rattle.arcwcet.specs.declared.fault.FileFault.TheVariants as file_fault
use Rattle.arcwcet.specs.declared.fault.StoreFault.{StoreFault}
use Rattle.arcwcet.specs.declared.fault.StoreFault.TheVariants as store_fault

-- ## What is refused

abbrev pub store_fault_name : StoreFault → List ℕ
store_fault_name store_fault.Memory = codes "Memory"
store_fault_name store_fault.Device = codes "Device"
store_fault_name store_fault.InputTooLong = codes "InputTooLong"

-- a report's fault, with its place, if there is no report
abbrev pub refusal_of : Result Bool ReportFault → Option (List ℕ)
refusal_of (Ok answer) = None
refusal_of (Err fault) = Some (fault_text fault)

-- ## What is said of it

-- what standard error took, by what was refused, if anything was
abbrev pub Saying : Type 1
Saying = Option (List ℕ) → Type 0

-- `explain` always shows why, after the line of its refusal, and other commands where `--why` is given
abbrev pub shows_why_of : Command → Bool → Bool
shows_why_of command.Explain why = true
shows_why_of command.Verdict why = true
shows_why_of c why = why

abbrev pub shows_why : Asked → Bool
shows_why asked = shows_why_of asked.command asked.why

-- some text was taken
abbrev pub TakesSome : Option (List ℕ) → Option (List ℕ) → Type 0
TakesSome old new = (text : List ℕ) × Appends old new text

module _ {E : Type 0} (taken : E → Option (List ℕ)) (failures : E → ℕ) where
  -- the line of a refusal, or a front of it where standard error fails; then what shows why, if that is shown
  abbrev pub SaysRefused : (why : Bool) → (old new : E) → List ℕ → Type 0
  SaysRefused false old new refused = TakesOrFails taken failures old new (refusal_line refused)
  SaysRefused true old new refused =
      (between : E) × TakesOrFails taken failures old between (refusal_line refused)
      × TakesSome (taken between) (taken new)

  -- of what was refused by a command, and nothing where nothing was
  abbrev pub Says : Asked → (old new : E) → Saying
  Says asked old new None = new ≡ old
  Says asked old new (Some refused) = SaysRefused (shows_why asked) old new refused

-- ## Why a file was not read

abbrev pub file_fault_text : FileFault → List ℕ
file_fault_text file_fault.NotFound = codes "no such file"
file_fault_text file_fault.PermissionDenied = codes "permission denied"
file_fault_text file_fault.IsADirectory = codes "is a directory"
file_fault_text file_fault.Other = codes "cannot be read"

-- a file's name, and why it was not read
abbrev pub unread_line : (name why : List ℕ) → List ℕ
unread_line name why = name ++ (codes ": " ++ (why ++ codes "\n"))
