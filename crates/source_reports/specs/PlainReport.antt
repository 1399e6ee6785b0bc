-- What the report of a source in ObjAsm's dialect prints.
use Rattle.std.specs.Prelude.{◌≡◌, ℕ, List, Ok}
use Rattle.handlers.specs.declared.fault.ReportFault.{ReportFault}
use Rattle.handlers.specs.declared.fault.ReportFault.TheVariants as report_fault
use Rattle.objasm.specs.Source.{FaultedAt, Plain, translated}

-- it has lines in our grammar
abbrev pub IsTranslated : List ℕ → Type 0
IsTranslated source = (plain : Plain) × (translated source ≡ Ok plain)

-- those lines
pub record IsPlainReport (source text : List ℕ) : Type 0 where
  pub plain : Plain
  pub translates : translated source ≡ Ok plain
  pub text_is : text ≡ plain.text

-- when each refusal is answered; an output fails whatever the source
abbrev pub IsPlainRefused : List ℕ → ReportFault → Type 0
IsPlainRefused source report_fault.Device = Unit {0}
IsPlainRefused source report_fault.Memory = Unit {0}
IsPlainRefused source (report_fault.Dialect fault) = FaultedAt fault (translated source)
IsPlainRefused source fault = ⊥
