-- Text in HTML. Bytes that come from a source are escaped one by one, so that none of them is a mark of HTML.
use Rattle.std.specs.Prelude.{◌≡◌, ◌⊎◌, ℕ, Bool, ◌==◌, ◌&&◌, ◌||◌, nat_le, not, true, if◌then◌else◌}
use Rattle.std.specs.Prelude.{Contains, List, [], ◌∷◌, codes}
use Rattle.std.specs.List.{flat_map}

-- a byte as text, also in quotes: the marks of HTML by their entities; a tab, and each other printable byte
-- of ASCII, for itself; and for each byte else the sign that stands for what cannot be shown, U+FFFD
abbrev pub escape : ℕ → List ℕ
escape b =
    if b == 38 then codes "&amp;" else if b == 60 then codes "&lt;" else if b == 62 then codes "&gt;"
    else if b == 34 then codes "&quot;" else if b == 39 then codes "&#39;"
    else if b == 9 || nat_le 32 b && nat_le b 126 then b ∷ [] else codes "&#xFFFD;"

abbrev pub escaped : List ℕ → List ℕ
escaped text = flat_map escape text

-- ## What escaped text has

-- no byte that begins or ends a tag or a quoted value
abbrev pub is_no_bracket : ℕ → Bool
is_no_bracket b = not (b == 60 || b == 62) && not (b == 34 || b == 39)

abbrev pub entities : List (List ℕ)
entities =
    codes "&amp;" ∷ codes "&lt;" ∷ codes "&gt;" ∷ codes "&quot;" ∷ codes "&#39;" ∷ codes "&#xFFFD;" ∷ []

-- one byte that is no mark, `&` among them, or one of the entities
abbrev pub IsPiece : List ℕ → Type 0
IsPiece piece =
    ((b : ℕ) × (piece ≡ b ∷ []) × (is_no_bracket b && not (b == 38) ≡ true)) ⊎ Contains entities piece
