-- The rows of a listing.
use Rattle.std.specs.Prelude.{◌≡◌, ℕ, zero, suc, ◌+◌, List, [], ◌++◌}
use Rattle.std.specs.Prelude.{codes, decimal, Option, Some}
use Rattle.asm_text.specs.Hex.{hex8}
use Rattle.assembler.specs.ShownLines.{IsShown}
use Rattle.assembler.specs.declared.placed_line.PlacedLine.{PlacedLine}
use Rattle.image.specs.Image.{Words, word_of}
use Rattle.sources.specs.Rows.{AreSourceRows}
use Rattle.sources.specs.declared.read.Source.{Source}
use Rattle.text_listing.specs.ListOrder.{order_note}
use Rattle.text_listing.specs.declared.listing_columns.TheConstants.{WORD_COLUMNS}
use Rattle.text_rows.specs.Columns.{in_columns}
use Rattle.text_rows.specs.Lines.{rows_from}
use Rattle.text_rows.specs.Rows.{row_end}
use Rattle.text_trace.specs.TraceText.{word_text}

-- an address and the word there
abbrev pub word_columns : ℕ → Option ℕ → List ℕ
word_columns at word = hex8 at ++ (codes "  " ++ word_text word)

-- blanks in the place of both
abbrev pub no_columns : List ℕ
no_columns = in_columns WORD_COLUMNS []

-- after the columns of a word, the number of a line, and as much of its text as there is room for
abbrev pub line_row : ℕ → List ℕ → List ℕ
line_row n = row_end WORD_COLUMNS (codes "  " ++ (in_columns 6 (decimal n) ++ codes "  "))

-- a row for each of so many words from an address on
abbrev pub word_rows : Words → (at count : ℕ) → List ℕ
word_rows image = rows_from (λ at. word_columns at (word_of image at) ++ codes "\n")

-- the number and the text of a line, beside its first word if it has one; its other words below
abbrev pub rows_beside : Words → (n : ℕ) → (text : List ℕ) → (at count : ℕ) → List ℕ
rows_beside image n text at zero = no_columns ++ line_row n text
rows_beside image n text at (suc more) =
    (word_columns at (word_of image at) ++ line_row n text) ++ word_rows image (at + 4) more

-- that, and a note on a list of registers that is out of order
abbrev pub line_rows : Words → (n : ℕ) → (text : List ℕ) → PlacedLine → List ℕ
line_rows image n text p = rows_beside image n text p.at p.words ++ order_note text

-- the address, the word and its line
abbrev pub IsWordRow : ℕ × ℕ → List ℕ → Type 0
IsWordRow e row =
    (line : List ℕ) × IsShown e.1 e.0 line
    × (row ≡ row_end 0 (word_columns e.0 (Some e.1) ++ codes "  ") line)

-- the rows of a text's lines, each where it is placed, with numbers from one on, or a row for each word of an
-- image
abbrev pub AreListed : Source → List ℕ → Type 0
AreListed source = AreSourceRows (line_rows source.image) IsWordRow source
