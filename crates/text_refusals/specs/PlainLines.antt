-- What a text of plain lines states: the rule that the reading of `Outline` follows, without its pieces.
use Rattle.std.specs.Prelude.{◌≡◌, ◌==◌, ◌&&◌, ◌||◌, ◌+◌, not, Bool, true, ℕ, List, [], ◌∷◌, ◌++◌, codes}
use Rattle.std.specs.List.{list_all}
use Rattle.text_refusals.specs.Outline.{Bare, Begins, Item, Quoted, States, Value, is_bare}
use Rattle.text_refusals.specs.Refused.{value_text}

-- `[[name]]`, or `key = value`
pub data PlainLine : Type 0 where
  Heading : (name : List ℕ) → PlainLine
  Setting : (key : List ℕ) → Value → PlainLine

-- a byte of a bare word, and no line feed
abbrev pub is_plain : ℕ → Bool
is_plain b = is_bare b && not (b == 10)

-- one such byte or more
abbrev pub IsWord : List ℕ → Type 0
IsWord [] = ⊥
IsWord (b ∷ bs) = list_all is_plain (b ∷ bs) ≡ true

-- neither the end of a text in double quotes nor of a line, and no backslash
abbrev pub is_quotable : ℕ → Bool
is_quotable b = not (b == 34 || (b == 92 || (b == 10 || b == 13)))

-- a word, or a text in double quotes
abbrev pub IsPlainValue : Value → Type 0
IsPlainValue (Bare w) = IsWord w
IsPlainValue (Quoted quotes w) = (quotes ≡ codes "\"") × (list_all is_quotable w ≡ true)
IsPlainValue _ = ⊥

abbrev pub IsPlain : PlainLine → Type 0
IsPlain (Heading name) = IsWord name
IsPlain (Setting key value) = IsWord key × IsPlainValue value

abbrev pub ArePlain : List PlainLine → Type 0
ArePlain [] = Unit {0}
ArePlain (l ∷ lines) = IsPlain l × ArePlain lines

abbrev pub line_text : PlainLine → List ℕ
line_text (Heading name) = codes "[[" ++ (name ++ codes "]]")
line_text (Setting key value) = key ++ (codes " = " ++ value_text value)

-- each ends in a line feed
abbrev pub lines_text : List PlainLine → List ℕ
lines_text [] = []
lines_text (l ∷ lines) = line_text l ++ 10 ∷ lines_text lines

-- each heading begins a table of its list, and each other line states a value in the table of the last
-- heading; the first line has the number
abbrev pub items_from : ℕ → (list : List ℕ) → List PlainLine → List Item
items_from n list [] = []
items_from n list (Heading name ∷ lines) =
    Begins (record { line = n; name = name; is_listed = true }) ∷ items_from (n + 1) name lines
items_from n list (Setting key value ∷ lines) =
    States (record { line = n; list = list; key = key; depth = 0; value = value })
    ∷ items_from (n + 1) list lines
