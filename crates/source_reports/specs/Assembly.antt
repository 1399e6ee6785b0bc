-- What the report of a source's image prints, and its file.
use Rattle.std.specs.Prelude.{◌≡◌, ◌++◌, ℕ, List, codes, decimal, length, Ok}
use Rattle.image.specs.Image.{Words}
use Rattle.image.specs.ImageBytes.{image_bytes, segments_of}
use Rattle.image.specs.Labels.{Names}
use Rattle.handlers.specs.Source.{IsSourceFault}
use Rattle.handlers.specs.declared.fault.ReportFault.{ReportFault}
use Rattle.handlers.specs.declared.fault.ReportFault.TheVariants as report_fault
use Rattle.sources.specs.Source.{source_of}
use Rattle.sources.specs.File.{File}

-- the source has these words
pub record HasWords (source : File) (words : Words) : Type 0 where
  pub names : Names
  pub source_is : source_of source ≡ Ok (words, names)

-- how many words there are, and how many segments of words side by side
abbrev pub size_text : Words → List ℕ
size_text words =
    codes "words "
    ++
    (decimal (length words) ++ (codes " segments " ++ (decimal (length (segments_of words)) ++ codes "\n")))

pub record IsAsmReport (source : File) (text : List ℕ) : Type 0 where
  pub words : Words
  pub has : HasWords source words
  pub text_is : text ≡ size_text words

-- the bytes of the image's file, and the report
pub record IsWritten (source : File) (bytes text : List ℕ) : Type 0 where
  pub words : Words
  pub has : HasWords source words
  pub bytes_are : bytes ≡ image_bytes (segments_of words)
  pub text_is : text ≡ size_text words

abbrev pub IsSource : File → Type 0
IsSource source = (words : Words) × HasWords source words

-- when each refusal is answered; an output fails whatever the source
abbrev pub IsSourceRefused : File → ReportFault → Type 0
IsSourceRefused source report_fault.Device = Unit {0}
IsSourceRefused source fault = IsSourceFault source fault
