-- What a certificate's check answers and prints.
use Rattle.std.specs.Prelude.{◌≡◌, ◌≢◌, ◌↔◌, ℕ, Bool, IsTrue, List, [], ◌∷◌, ◌++◌, codes, Option, Result}
use Rattle.bus_ticks.specs.declared.profile.Profile.{Profile}
use Rattle.control_flow.specs.Flow.{Flow}
use Rattle.statement.specs.Stated.{Stated}
use Rattle.loop_bounds.specs.Bounds.{IsGreatestCost}
use Rattle.loop_bounds.specs.Handler.{IsTreeOf}
use Rattle.loop_bounds.specs.Tree.{Tree}
use Rattle.certificate.specs.Faults.{EndsEarly, GoesOn, HasBadLine}
use Rattle.certificate.specs.Lines.{CanSpell, Said, cert_text, said_by}
use Rattle.certificate.specs.declared.cert.Cert.{Cert}
use Rattle.certificate.specs.declared.fault.CertFault.{CertFault}
use Rattle.certificate.specs.declared.fault.CertFault.TheVariants as cert_fault
use Rattle.cert_check.specs.Verdict.{IsVerdict}
use Rattle.cert_check.specs.declared.verdict.Objection.{Objection}
use Rattle.cert_check.specs.declared.verdict.Objection.TheVariants as o
use Rattle.cert_check.specs.declared.verdict.Verdict.{Verdict}
use Rattle.cert_check.specs.declared.verdict.Verdict.TheVariants.{Yes, No}
use Rattle.handlers.specs.Answers.{Answers}
use Rattle.handlers.specs.Report.{HasLoops, IsHandlerRefused}
use Rattle.handlers.specs.declared.fault.ReportFault.{ReportFault}
use Rattle.handlers.specs.declared.fault.ReportFault.TheVariants as report_fault
use Rattle.sources.specs.File.{File}

-- ## The text

abbrev pub objection_name : Objection → List ℕ
objection_name o.MissingPlace = codes "MissingPlace"
objection_name o.ExtraPlace = codes "ExtraPlace"
objection_name o.EdgeTooHeavy = codes "EdgeTooHeavy"
objection_name o.RoundTooHeavy = codes "RoundTooHeavy"
objection_name o.LeaveTooHeavy = codes "LeaveTooHeavy"
objection_name o.BrokenWalk = codes "BrokenWalk"
objection_name o.WalkOverBound = codes "WalkOverBound"
objection_name o.WalkCost = codes "WalkCost"
objection_name o.NumberTooLarge = codes "NumberTooLarge"
objection_name o.WrongProfile = codes "WrongProfile"

-- `no: ` and the name
abbrev pub objection_line : Objection → List ℕ
objection_line objection = codes "no: " ++ (objection_name objection ++ 10 ∷ [])

abbrev pub verdict_line : Verdict → List ℕ
verdict_line Yes = codes "yes" ++ 10 ∷ []
verdict_line (No objection) = objection_line objection

-- ## The answer

-- The text is a certificate, no refusal up to the loops holds of the source and the statement, and this is
-- the verdict on it by their graph. Yes, whoever wrote it, means that its bound is the greatest cost.
pub record IsJudged (source : File) (statement text : List ℕ) (profile : Profile)
    (verdict : Verdict) : Type 0 where
  pub stated : Stated
  pub flow : Flow
  pub tree : Tree
  pub cert : Cert
  pub loops : HasLoops source statement profile stated flow
  pub tree_of : IsTreeOf flow stated.loops tree
  pub can_spell : CanSpell (said_by cert)
  pub spelled : text ≡ cert_text (said_by cert)
  pub verdict_is : IsVerdict flow tree cert verdict
  pub greatest : verdict ≡ Yes → IsGreatestCost flow stated.loops cert.bound

-- the verdict's line, and whether it is Yes
pub record IsAnswer (source : File) (statement text : List ℕ) (profile : Profile) (answer : Bool)
    (line : List ℕ) : Type 0 where
  pub verdict : Verdict
  pub judged : IsJudged source statement text profile verdict
  pub answer_is : IsTrue answer ↔ (verdict ≡ Yes)
  pub line_is : line ≡ verdict_line verdict

-- no refusal up to the loops holds, and the text is a certificate
pub record IsCheckable (source : File) (statement text : List ℕ) (profile : Profile) : Type 0 where
  pub stated : Stated
  pub flow : Flow
  pub said : Said
  pub loops : HasLoops source statement profile stated flow
  pub can_spell : CanSpell said
  pub spelled : text ≡ cert_text said

-- ## Refusals

-- when each fault of the text is answered
abbrev pub IsCertFault : List ℕ → CertFault → Type 0
IsCertFault text cert_fault.Memory = Unit {0}
IsCertFault text (cert_fault.BadLine line) = HasBadLine text line
IsCertFault text cert_fault.Truncated = EndsEarly text
IsCertFault text cert_fault.TrailingBytes = GoesOn text

-- a fault of the text, of a graph and its loops
pub record IsCertRefused (source : File) (statement text : List ℕ) (profile : Profile)
    (fault : CertFault) : Type 0 where
  pub stated : Stated
  pub flow : Flow
  pub loops : HasLoops source statement profile stated flow
  pub not_memory : fault ≢ cert_fault.Memory
  pub holds : IsCertFault text fault

-- when each refusal is answered: the first in the order of the work; an output fails whatever the texts
abbrev pub IsCheckRefused : File → List ℕ → List ℕ → Profile → ReportFault → Type 0
IsCheckRefused source statement text profile (report_fault.Cert fault) =
    IsCertRefused source statement text profile fault
IsCheckRefused source statement text profile report_fault.Device = Unit {0}
IsCheckRefused source statement text profile fault = IsHandlerRefused source statement profile fault

-- ## The call

-- the answer to a source, a statement and a certificate's text: the verdict's line
abbrev pub Checks : {O : Type 0} → (O → Option (List ℕ)) → (O → ℕ) → File → List ℕ → List ℕ → Profile → O
    → O → Result Bool ReportFault → Type 0
Checks taken failures source statement text profile old new result =
    Answers taken failures (IsAnswer source statement text profile)
    (IsCheckable source statement text profile)
    (IsCheckRefused source statement text profile) old new result
