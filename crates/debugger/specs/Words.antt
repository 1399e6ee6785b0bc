-- The words of a command line and its numbers, which are those of the assembler's source.
use Rattle.std.specs.Prelude.{◌==◌, ℕ, not, Bool, true, false, List, [], ◌∷◌, Option, if◌then◌else◌}
use Rattle.asm_text.specs.Numbers.{number_by, read_number}
use Rattle.asm_text.specs.Pieces.{is_blank}

abbrev pub starts_word : List ℕ → Bool
starts_word [] = false
starts_word (b ∷ bs) = not (is_blank b)

-- a byte in front of words: it belongs to the first of them, where that is next to it
abbrev pub joined : ℕ → (next_to_it : Bool) → List (List ℕ) → List (List ℕ)
joined b true [] = (b ∷ []) ∷ []
joined b true (word ∷ words) = (b ∷ word) ∷ words
joined b false words = (b ∷ []) ∷ words

-- words are separated by spaces and tabs
unfoldable pub words_of : List ℕ → List (List ℕ)
words_of [] = []
words_of (b ∷ bs) = if is_blank b then words_of bs else joined b (starts_word bs) (words_of bs)

-- decimal, or hexadecimal after `&` or `0x`, below 2^32
abbrev pub number_of : List ℕ → Option ℕ
number_of [] = read_number []
number_of (c ∷ d) = if c == 38 then number_by 16 d else read_number (c ∷ d)
