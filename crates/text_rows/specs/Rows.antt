-- Rows of a text, one for each of several things.
use Rattle.std.specs.Prelude.{◌≡◌, ℕ, ◌+◌, List, [], ◌∷◌, ◌++◌, codes, decimal, length}
use Rattle.asm_text.specs.Hex.{hex8}
use Rattle.assembler.specs.ShownLines.{IsShown}
use Rattle.text_rows.specs.Columns.{cut_row, in_columns}

-- a row for each, in their order; or a part of another list than a text
abbrev pub AreRows : {A B : Type 0} → (A → List B → Type 0) → List A → List B → Type 0
AreRows IsRow [] text = text ≡ []
AreRows {A} {B} IsRow (e ∷ es) text =
    (row rest : List B) × IsRow e row × AreRows IsRow es rest × (text ≡ row ++ rest)

-- rows under their heading; nothing where there are none
abbrev pub section : List ℕ → List ℕ → List ℕ
section heading [] = []
section heading (byte ∷ rows) = heading ++ (byte ∷ rows)

-- ## Rows of words, in a row that has so many columns already

-- a text after some columns more
abbrev pub row_end : (used : ℕ) → (columns text : List ℕ) → List ℕ
row_end used columns text = columns ++ cut_row (used + length columns) text

-- the address of a word
abbrev pub address_column : ℕ → List ℕ
address_column at = codes "  " ++ hex8 at

-- a word of a source: its address, and the number and the text of its line
abbrev pub named_row : (used at n : ℕ) → (text : List ℕ) → List ℕ
named_row used at n =
    row_end used (address_column at ++ (codes " " ++ (in_columns 5 (decimal n) ++ codes "  ")))

-- a word of an image: its address, the word and its line
abbrev pub IsShownRow : (used : ℕ) → ℕ × ℕ → List ℕ → Type 0
IsShownRow used e row =
    (line : List ℕ) × IsShown e.1 e.0 line
    × (row ≡ row_end used (address_column e.0 ++ (codes "  " ++ (hex8 e.1 ++ codes "  "))) line)

-- an address where no word is
abbrev pub address_row : ℕ → List ℕ
address_row at = address_column at ++ codes "\n"
