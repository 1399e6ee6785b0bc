-- The handler of FIQ, and when it is refused.
use Rattle.std.specs.Prelude.{◌≡◌, ◌≢◌, ℕ, List, Option, Some, None, IfSome, Ok}
use Rattle.bus_ticks.specs.declared.profile.Profile.{Profile}
use Rattle.bus_ticks.specs.declared.space.TheConstants.{FIQ_VECTOR}
use Rattle.image.specs.Image.{Words}
use Rattle.image.specs.Labels.{Names}
use Rattle.statement.specs.Stated.{Stated}
use Rattle.statement.specs.Statement.{IsStatement}
use Rattle.handlers.specs.Meeting.{SourcesShare}
use Rattle.handlers.specs.Report.{IsRefused}
use Rattle.sources.specs.Source.{source_of}
use Rattle.handlers.specs.declared.fault.ReportFault.{ReportFault}
use Rattle.handlers.specs.declared.fault.ReportFault.TheVariants as report_fault
use Rattle.sources.specs.File.{File}

-- FIQ's handler does not begin at FIQ's vector
pub record EntersElsewhere (source : File) (fiq : List ℕ) : Type 0 where
  pub words : Words
  pub names : Names
  pub stated : Stated
  pub source_is : source_of source ≡ Ok (words, names)
  pub statement_is : IsStatement fiq names (Ok stated)
  pub elsewhere : stated.entry ≢ FIQ_VECTOR

-- When each refusal of FIQ's handler is answered: that of its entry after those of its statement's text, and
-- before those of its graph.
abbrev pub IsFiqRefused : File → List ℕ → Profile → ReportFault → Type 0
IsFiqRefused source fiq profile report_fault.Memory = Unit {0}
IsFiqRefused source fiq profile report_fault.NotFiqEntry = EntersElsewhere source fiq
IsFiqRefused source fiq profile fault =
    IsRefused source fiq profile fault × (EntersElsewhere source fiq → ⊥)

-- ## Of its own source

-- the source of FIQ's handler: its own, or that of the interrupted handler
abbrev pub fiq_bytes : (source : File) → (own : Option File) → File
fiq_bytes source None = source
fiq_bytes source (Some own) = own

-- two sources share no address
abbrev pub AreApart : (source : File) → (own : Option File) → Type 0
AreApart source own = IfSome own (λ other. SourcesShare source other None)

-- When each refusal is answered. That its own source shares an address with the other one comes after the
-- faults of reading it, and before all else.
abbrev pub IsFiqsRefused : (source : File) → (own : Option File) → List ℕ → Profile → ReportFault
    → Type 0
IsFiqsRefused source None fiq profile fault = IsFiqRefused source fiq profile fault
IsFiqsRefused source (Some own) fiq profile report_fault.Memory = Unit {0}
IsFiqsRefused source (Some own) fiq profile (report_fault.WordsMeet address) =
    SourcesShare source own (Some address)
IsFiqsRefused source (Some own) fiq profile fault =
    IsFiqRefused own fiq profile fault × ((address : ℕ) → SourcesShare source own (Some address) → ⊥)
