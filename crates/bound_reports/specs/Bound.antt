-- What the call of a report prints and refuses, by a cycle profile's file, or by the first profile where none
-- is given.
use Rattle.std.specs.Prelude.{ℕ, List, Option, Result}
use Rattle.bus_ticks.specs.declared.profile.Profile.{Profile}
use Rattle.handlers.specs.Answers.{Answers}
use Rattle.handlers.specs.Priced.{ByProfile, PricedFault}
use Rattle.handlers.specs.Report.{IsAccepted, IsRefused, IsReport}
use Rattle.handlers.specs.declared.fault.ReportFault.{ReportFault}
use Rattle.sources.specs.File.{File}

-- the answer to a source and a statement: their report
abbrev pub Reports : {O T : Type 0} → (O → Option (List ℕ)) → (O → ℕ) → File → List ℕ → Profile → O → O
    → Result T ReportFault → Type 0
Reports taken failures source statement profile old new result =
    Answers taken failures (λ _ text. IsReport source statement profile text)
    (IsAccepted source statement profile) (IsRefused source statement profile) old new result

-- the report of a source and a statement by the profile
abbrev pub IsReportBy : (file : Option (List ℕ)) → (source : File) (statement text : List ℕ) → Type 0
IsReportBy file source statement text = ByProfile file (λ p. IsReport source statement p text)

-- they have a report
abbrev pub AreAcceptedBy : (file : Option (List ℕ)) → (source : File) (statement : List ℕ) → Type 0
AreAcceptedBy file source statement = ByProfile file (IsAccepted source statement)

-- why they have none, or there is no profile
abbrev pub AreRefusedBy : (file : Option (List ℕ)) → (source : File) (statement : List ℕ)
    → ReportFault → Type 0
AreRefusedBy file source statement fault = PricedFault file (IsRefused source statement) fault
