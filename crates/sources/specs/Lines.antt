-- The lines of a source by the addresses of their words.
use Rattle.std.specs.Prelude.{◌≡◌, ℕ, [], Option, None, nat_eq}
use Rattle.std.specs.BTreeMap.{BTreeMap}
use Rattle.std.specs.Map.{update_all}
use Rattle.asm_text.specs.Source.{lines_of}
use Rattle.image.specs.Labels.{NamedAddresses}
use Rattle.sources.specs.declared.read.Source.{Source}
use Rattle.sources.specs.declared.read.SourceText.{SourceText}
use Rattle.sources.specs.declared.read.SourceText.TheVariants.{Lines, Image}
use Rattle.text_rows.specs.LineLabels.{AreNamed}
use Rattle.text_rows.specs.WordLines.{Numbered, numbered_at, words_of}
use Rattle.text_rows.specs.declared.line_labels.SourceLine.{SourceLine}

-- the line of the word at an address: where two are at one address, the later; an image has no lines
abbrev pub line_in : NamedAddresses → SourceText → ℕ → Option Numbered
line_in names (Lines bytes placed) =
    update_all nat_eq (λ a. None) (words_of names 1 [] (lines_of bytes.now) placed.items)
line_in names Image = λ at. None

abbrev pub line_of : Source → ℕ → Option Numbered
line_of source = line_in source.labels source.text

-- these are the lines of all words, and each word's label stands for its address
pub record AreLines (source : Source) (lines : BTreeMap ℕ SourceLine) : Type 0 where
  pub named : AreNamed source.labels lines
  pub each : (at : ℕ) → numbered_at lines at ≡ line_of source at
