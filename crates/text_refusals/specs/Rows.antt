-- Rows of places: the address, and its line of the source or its word, as in the assumptions that explain
-- lists.
use Rattle.std.specs.Prelude.{◌≡◌, ℕ, List, [], Option, Some, None}
use Rattle.control_flow.specs.declared.places.Place.{Place}
use Rattle.control_flow.specs.declared.places.Place.TheVariants.{At, Exit}
use Rattle.image.specs.Image.{Words, word_of}
use Rattle.text_rows.specs.Rows.{IsShownRow, address_row, named_row}
use Rattle.text_rows.specs.declared.line_labels.SourceLine.{SourceLine}
use Rattle.text_rows.specs.WordLines.{line_at}
use Rattle.text_refusals.specs.declared.word_lines.WordLines.{WordLines}

-- ## Rows

-- the row of a line's word
abbrev pub source_row : ℕ → SourceLine → List ℕ
source_row at line = named_row 0 at line.number line.text.now

abbrev pub IsImageRow : ℕ → Option ℕ → List ℕ → Type 0
IsImageRow at (Some word) row = IsShownRow 0 (at, word) row
IsImageRow at None row = row ≡ address_row at

abbrev pub IsLineRow : Words → ℕ → Option SourceLine → List ℕ → Type 0
IsLineRow image at (Some line) row = row ≡ source_row at line
IsLineRow image at None row = IsImageRow at (word_of image at) row

-- the row of what is at an address
abbrev pub IsRow : WordLines → ℕ → List ℕ → Type 0
IsRow words at = IsLineRow words.image.now at (line_at words.lines at)

-- the row of a place; Exit has none
abbrev pub IsPlaceRow : WordLines → Place → List ℕ → Type 0
IsPlaceRow words (At calls at) row = IsRow words at row
IsPlaceRow words Exit row = row ≡ []
