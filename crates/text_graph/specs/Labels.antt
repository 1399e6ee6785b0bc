-- What a drawing shows for the word of each place.
use Rattle.std.specs.Prelude.{◌≡◌, ℕ, ◌-◌, List, [], ◌∷◌, length, take}
use Rattle.std.specs.Prelude.{Vec, Option, Some, None}
use Rattle.std.specs.Char.{is_ascii_whitespace}
use Rattle.std.specs.Global.{Global}
use Rattle.std.specs.List.{AllZip, suffix_len}
use Rattle.asm_text.specs.Hex.{hex8}
use Rattle.asm_text.specs.Statements.{body_len}
use Rattle.assembler.specs.ShownLines.{IsWordLine}
use Rattle.control_flow.specs.Places.{place_address}
use Rattle.control_flow.specs.declared.places.Place.{Place}
use Rattle.image.specs.Image.{Words, word_of}
use Rattle.sources.specs.Lines.{line_of}
use Rattle.sources.specs.declared.read.Source.{Source}
use Rattle.sources.specs.declared.read.SourceText.{SourceText}
use Rattle.sources.specs.declared.read.SourceText.TheVariants.{Lines, Image}
use Rattle.text_rows.specs.WordLines.{Numbered}
use Rattle.text_graph.specs.Pieces.{escaped}

-- ## Rows

-- a text without the blanks at its end
abbrev pub trimmed : List ℕ → List ℕ
trimmed text = take (length text - suffix_len is_ascii_whitespace text) text

-- what a line has in front of its comment, without the blanks at its end
abbrev pub without_comment : List ℕ → List ℕ
without_comment line = trimmed (take (body_len line) line)

-- that of a line, empty where there is none
abbrev pub text_of : Option Numbered → List ℕ
text_of None = []
text_of (Some line) = without_comment line.text

-- the line of the image's word at an address
abbrev pub IsImageLabel : Words → ℕ → List ℕ → Type 0
IsImageLabel words a text = IsWordLine (word_of words a) a text

-- the text of the line of an address, where the source has lines; else what its word there says
abbrev pub IsLabelBy : Option Numbered → Words → SourceText → ℕ → List ℕ → Type 0
IsLabelBy line words (Lines bytes placed) a text = text ≡ text_of line
IsLabelBy line words Image a text = IsImageLabel words a text

abbrev pub IsLabel : Source → ℕ → List ℕ → Type 0
IsLabel source a = IsLabelBy (line_of source a) source.image source.text a

-- a label for each place, by its address
abbrev pub AreLabels : Source → List Place → List (Vec ℕ Global) → Type 0
AreLabels source places labels = AllZip (λ p l. IsLabel source (place_address p) l.items) places labels

-- ## Names of frames

-- a label inside of quotes, and the address where there is none
abbrev pub label_or_address : List ℕ → ℕ → List ℕ
label_or_address [] a = hex8 a
label_or_address (byte ∷ label) a = escaped (byte ∷ label)

-- the label of the word at an address, by its line, else the address
abbrev pub name_by : Option Numbered → ℕ → List ℕ
name_by None a = hex8 a
name_by (Some line) a = label_or_address line.label a
