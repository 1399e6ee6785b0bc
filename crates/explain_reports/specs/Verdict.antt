-- What is printed of a verdict, with what fails in the certificate.
use Rattle.std.specs.Prelude.{◌≡◌, ◌↔◌, ℕ, Bool, IsTrue, List, [], ◌++◌, Result}
use Rattle.std.specs.Prelude.{Option, Some, None, IfSome}
use Rattle.bus_ticks.specs.declared.profile.Profile.{Profile}
use Rattle.cert_check.specs.Failing.{IsFailing, verdict_of}
use Rattle.cert_check.specs.declared.failing.FailingRow.{FailingRow}
use Rattle.text_objections.specs.Texts.{objection_text}
use Rattle.handlers.specs.Answers.{Answers}
use Rattle.handlers.specs.declared.fault.ReportFault.{ReportFault}
use Rattle.explain_reports.specs.Check.{IsCheckRefused, IsCheckable, IsJudged, verdict_line}
use Rattle.sources.specs.File.{File}

-- the verdict on the text is judged, and this fails for its objection in the certificate that the text
-- spells; nothing where it is Yes
pub record IsExplained (source : File) (statement text : List ℕ) (profile : Profile)
    (row : Option FailingRow) : Type 0 where
  pub judged : IsJudged source statement text profile (verdict_of row)
  pub fails : IfSome row (IsFailing judged.flow judged.tree judged.cert)

-- the lines that say what fails
abbrev pub row_text : Option FailingRow → List ℕ
row_text None = []
row_text (Some row) = objection_text row

-- the verdict's line, and then what fails; and whether the verdict is Yes
pub record IsVerdictReport (source : File) (statement text : List ℕ) (profile : Profile) (answer : Bool)
    (report : List ℕ) : Type 0 where
  pub row : Option FailingRow
  pub explained : IsExplained source statement text profile row
  pub answer_is : IsTrue answer ↔ (row ≡ None)
  pub report_is : report ≡ verdict_line (verdict_of row) ++ row_text row

-- the answer to a source, a statement and a certificate's text
abbrev pub ExplainsVerdict : {O : Type 0} → (O → Option (List ℕ)) → (O → ℕ) → File → List ℕ → List ℕ
    → Profile → O → O → Result Bool ReportFault → Type 0
ExplainsVerdict taken failures source statement text profile old new result =
    Answers taken failures (IsVerdictReport source statement text profile)
    (IsCheckable source statement text profile)
    (IsCheckRefused source statement text profile) old new result
