-- When a report's fault is that of a source.
use Rattle.std.specs.Prelude.{◌≡◌, ℕ, List, Err}
use Rattle.handlers.specs.declared.fault.ReportFault.{ReportFault}
use Rattle.handlers.specs.declared.fault.ReportFault.TheVariants.{Memory, Source, Image, Dialect}
use Rattle.sources.specs.Source.{source_of}
use Rattle.sources.specs.declared.fault.SourceFault.TheVariants as source_fault
use Rattle.sources.specs.File.{File}

-- when each refusal of a source is answered; an allocation may fail whatever it says
abbrev pub IsSourceFault : File → ReportFault → Type 0
IsSourceFault source Memory = Unit {0}
IsSourceFault source (Source fault) = source_of source ≡ Err (source_fault.Text fault)
IsSourceFault source (Image fault) = source_of source ≡ Err (source_fault.Image fault)
IsSourceFault source (Dialect fault) = source_of source ≡ Err (source_fault.Dialect fault)
IsSourceFault source fault = ⊥
