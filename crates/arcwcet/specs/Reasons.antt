-- What is printed after the line of a refusal: what shows why.
use Rattle.std.specs.Prelude.{◌≡◌, ℕ, List, [], map, Result, Ok, Err}
use Rattle.objasm.specs.declared.faults.LineFault.{LineFault}
use Rattle.sources.specs.Dialect.{InGrammar, in_grammar, origin_of, text_of}
use Rattle.sources.specs.File.{File, file_of}
use Rattle.sources.specs.Lines.{AreLines}
use Rattle.sources.specs.declared.read.Source.{Source}
use Rattle.text_refusals.specs.AskedLabels.{IsStatementReason}
use Rattle.text_refusals.specs.FaultyLines.{AreFaultyLines}
use Rattle.text_refusals.specs.FileTexts.{IsGivenText, IsMachineText, IsProfileText}
use Rattle.text_refusals.specs.Reasons.{IsGraphReason, IsLoopsReason}
use Rattle.text_refusals.specs.Texts.{IsFaultyRow}
use Rattle.text_rows.specs.Rows.{AreRows}
use Rattle.text_refusals.specs.declared.source_faults.FaultyLine.{FaultyLine}
use Rattle.text_refusals.specs.declared.word_lines.WordLines.{WordLines}
use Rattle.handlers.specs.declared.fault.ReportFault.{ReportFault}
use Rattle.handlers.specs.declared.fault.ReportFault.TheVariants as report_fault
use Rattle.handlers.specs.declared.refusal.Refusal.{Refusal}
use Rattle.handlers.specs.declared.refusal.Refusal.TheVariants as refusal
use Rattle.handlers.specs.declared.refusal.Stop.{Stop}
use Rattle.handlers.specs.declared.refusal.Stop.TheVariants as stop
use Rattle.arcwcet.specs.declared.diagnose.RefusedFiles.{RefusedFiles}

-- the words of the source with their lines
pub record AreWordsOf (source : Source) (words : WordLines) : Type 0 where
  pub lines : AreLines source words.lines
  pub image : words.image.now ≡ source.image

-- it shows why, by some words of the source
abbrev pub ByWords : Source → (WordLines → Type 0) → Type 0
ByWords source Is = (words : WordLines) × AreWordsOf source words × Is words

-- a line in our grammar with a fault, as the author's line that it comes from
abbrev pub at_origin : InGrammar → FaultyLine → FaultyLine
at_origin text line = record line { number = origin_of text line.number }

-- the lines of a text that have faults in our grammar, as they stand in the text
abbrev pub HasFaultyRows : (bytes : List ℕ) → InGrammar → List ℕ → Type 0
HasFaultyRows bytes plain text =
    (lines : List FaultyLine) × AreFaultyLines (text_of plain) lines
    × AreRows (IsFaultyRow bytes) (map (at_origin plain) lines) text

-- nothing of a text that is nothing in our grammar, as the one line says all
abbrev pub HasRowsBy : (bytes : List ℕ) → Result InGrammar (LineFault × ℕ) → List ℕ → Type 0
HasRowsBy bytes (Ok plain) text = HasFaultyRows bytes plain text
HasRowsBy bytes (Err fault) text = text ≡ []

-- the lines of a source's file that have faults
abbrev pub IsSourceReason : File → List ℕ → Type 0
IsSourceReason file text = HasRowsBy file.bytes (in_grammar file) text

-- of a file that is refused; nothing where the one line says all
abbrev pub IsFileReason : RefusedFiles → ReportFault → List ℕ → Type 0
IsFileReason files (report_fault.Source fault) text = IsSourceReason (file_of files.source) text
IsFileReason files (report_fault.MachineFile fault) text = IsMachineText files.machine.now fault text
IsFileReason files (report_fault.Profile fault) text = IsProfileText files.profile.now fault text
IsFileReason files (report_fault.Given fault) text = IsGivenText files.given.now fault text
IsFileReason files fault text = text ≡ []

-- of work on a source that has stopped
abbrev pub IsStopReason : RefusedFiles → Source → Stop → List ℕ → Type 0
IsStopReason files source (stop.Alone fault) text = IsFileReason files fault text
IsStopReason files source (stop.Statement shown fault) text =
    IsStatementReason source shown.now fault text
IsStopReason files source (stop.Graph stated profile fault) text =
    ByWords source (λ words. IsGraphReason words stated profile fault text)
IsStopReason files source (stop.Loops stated flow fault) text =
    ByWords source (λ words. IsLoopsReason words flow stated.loops fault text)

-- of a refusal, by what was read before it, or by the file that could not be read
abbrev pub AreReasons : RefusedFiles → Refusal → List ℕ → Type 0
AreReasons files (refusal.Alone fault) text = IsFileReason files fault text
AreReasons files (refusal.OnSource source stopped) text = IsStopReason files source stopped text
