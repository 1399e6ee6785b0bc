-- Rows of a text about a source.
use Rattle.std.specs.Prelude.{◌≡◌, ℕ, List}
use Rattle.asm_text.specs.Source.{lines_of}
use Rattle.assembler.specs.declared.placed_line.PlacedLine.{PlacedLine}
use Rattle.image.specs.Image.{Words}
use Rattle.sources.specs.declared.read.Source.{Source}
use Rattle.sources.specs.declared.read.SourceText.{SourceText}
use Rattle.sources.specs.declared.read.SourceText.TheVariants.{Lines, Image}
use Rattle.text_rows.specs.Lines.{rows_by_line}
use Rattle.text_rows.specs.Rows.{AreRows}

module _ (line_rows : ℕ → List ℕ → PlacedLine → List ℕ) (IsRow : ℕ × ℕ → List ℕ → Type 0) where
  -- the rows of a text's lines, or a row for each word of an image
  abbrev pub AreTextRows : Words → SourceText → List ℕ → Type 0
  AreTextRows words (Lines bytes placed) rows =
      rows ≡ rows_by_line line_rows 1 (lines_of bytes.now) placed.items
  AreTextRows words Image rows = AreRows IsRow words rows

  abbrev pub AreSourceRows : Source → List ℕ → Type 0
  AreSourceRows source = AreTextRows source.image source.text
