-- How the text of a line is shown in a row.
use Rattle.std.specs.Prelude.{ℕ, Bool, false, if◌then◌else◌, List, [], ◌∷◌, ◌++◌, codes, take}
use Rattle.asm_text.specs.Pieces.{is_blank}
use Rattle.text_rows.specs.Columns.{cut_at}

-- a byte, with a blank in front of it if it comes after blanks; a blank alone shows nothing
abbrev pub byte_text : (after_blanks : Bool) → ℕ → List ℕ
byte_text after_blanks b =
    if is_blank b then [] else (if after_blanks then 32 ∷ b ∷ [] else b ∷ [])

-- a text in which one blank stands for each run of blanks and tabs; at its end none does
abbrev pub squeezed_from : (after_blanks : Bool) → List ℕ → List ℕ
squeezed_from after_blanks [] = []
squeezed_from after_blanks (b ∷ bs) = byte_text after_blanks b ++ squeezed_from (is_blank b) bs

abbrev pub squeezed : List ℕ → List ℕ
squeezed text = squeezed_from false text

-- as much of a text as there is room for, without a part of a character, and the end of the row
abbrev pub cut_text : (room : ℕ) → List ℕ → List ℕ
cut_text room text = take (cut_at room text) text ++ codes "\n"
