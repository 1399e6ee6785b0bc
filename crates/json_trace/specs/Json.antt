-- JSON texts, without blanks (RFC 8259).
use Rattle.std.specs.Prelude.{ℕ, nat_le, ◌==◌, ◌&&◌, ◌||◌, not, List, [], ◌∷◌, ◌++◌, codes, Bool, true, false}
use Rattle.std.specs.Prelude.{Option, Some, None}
use Rattle.asm_text.specs.Hex.{hex8}

-- a printed character that needs no escape in a string: not `"`, and not a backslash
abbrev pub needs_no_escape : ℕ → Bool
needs_no_escape b = (nat_le 32 b && nat_le b 126) && not (b == 34 || b == 92)

-- a string of characters that need no escape
abbrev pub quoted : List ℕ → List ℕ
quoted text = codes "\"" ++ (text ++ codes "\"")

abbrev pub member : (name value : List ℕ) → List ℕ
member name value = quoted name ++ (codes ":" ++ value)

-- each item after a comma
abbrev pub continued : List (List ℕ) → List ℕ
continued [] = []
continued (item ∷ rest) = codes "," ++ (item ++ continued rest)

-- items with commas between them
abbrev pub separated : List (List ℕ) → List ℕ
separated [] = []
separated (item ∷ rest) = item ++ continued rest

-- each item before a comma
abbrev pub ended : List (List ℕ) → List ℕ
ended [] = []
ended (item ∷ rest) = item ++ (codes "," ++ ended rest)

abbrev pub object : List (List ℕ) → List ℕ
object members = codes "{" ++ (separated members ++ codes "}")

abbrev pub array : List (List ℕ) → List ℕ
array items = codes "[" ++ (separated items ++ codes "]")

abbrev pub boolean : Bool → List ℕ
boolean true = codes "true"
boolean false = codes "false"

-- a value, or null
abbrev pub or_null : Option (List ℕ) → List ℕ
or_null (Some value) = value
or_null None = codes "null"

-- a word: a string of eight hexadecimal digits
abbrev pub word_value : ℕ → List ℕ
word_value word = quoted (hex8 word)

abbrev pub name_value : Option (List ℕ) → List ℕ
name_value (Some name) = quoted name
name_value None = codes "null"
