-- The pieces of a line without its comment.
use Rattle.std.specs.Prelude.{◌==◌, ◌||◌, ℕ, Bool, false, List, [], ◌∷◌, if◌then◌else◌, map}
use Rattle.std.specs.Borrow.{Bor}
use Rattle.std.specs.Char.{is_ascii_alphanumeric}
use Rattle.asm_text.specs.declared.token.Mark.{Mark}
use Rattle.asm_text.specs.declared.token.Mark.TheVariants.{Hash, Minus, Bang, Caret, Ampersand, OpenBracket}
use Rattle.asm_text.specs.declared.token.Mark.TheVariants.{CloseBracket, OpenBrace, CloseBrace, Other}
use Rattle.asm_text.specs.declared.token.Token.{Token}
use Rattle.asm_text.specs.declared.token.Token.TheVariants as code

-- a run of letters, digits and `_`; a comma; any other byte; blanks between two pieces
pub data Piece : Type 0 where
  Run : List ℕ → Piece
  Comma : Piece
  Sign : Mark → Piece
  Gap : Piece

abbrev pub piece_of : Token → Piece
piece_of (code.Run r) = Run r.now
piece_of code.Comma = Comma
piece_of (code.Sign m) = Sign m
piece_of code.Gap = Gap

-- a space or a tab
abbrev pub is_blank : ℕ → Bool
is_blank b = b == 32 || b == 9

-- a letter, a digit or `_`
abbrev pub is_name : ℕ → Bool
is_name b = is_ascii_alphanumeric b || b == 95

-- # - ! ^ & [ ] { }
abbrev pub mark_of : ℕ → Mark
mark_of b =
    if b == 35 then Hash
    else (if b == 45 then Minus
    else (if b == 33 then Bang
    else (if b == 94 then Caret
    else (if b == 38 then Ampersand
    else (if b == 91 then OpenBracket
    else (if b == 93 then CloseBracket
    else (if b == 123 then OpenBrace
    else (if b == 125 then CloseBrace
    else Other))))))))

abbrev pub first_blank : List ℕ → Bool
first_blank [] = false
first_blank (b ∷ bs) = is_blank b

-- a byte in front of pieces

abbrev pub name_before : ℕ → List Piece → List Piece
name_before b (Run r ∷ ps) = Run (b ∷ r) ∷ ps
name_before b ps = Run (b ∷ []) ∷ ps

abbrev pub gap_before : List Piece → List Piece
gap_before [] = []
gap_before (Gap ∷ ps) = Gap ∷ ps
gap_before (Comma ∷ ps) = Comma ∷ ps
gap_before (Sign m ∷ ps) = Gap ∷ Sign m ∷ ps
gap_before (Run r ∷ ps) = Gap ∷ Run r ∷ ps

abbrev pub without_gap : List Piece → List Piece
without_gap (Gap ∷ ps) = ps
without_gap ps = ps

abbrev pub byte_before : ℕ → List Piece → List Piece
byte_before b ps =
    if is_blank b then gap_before ps
    else if is_name b then name_before b ps
    else if b == 44 then Comma ∷ without_gap ps
    else Sign (mark_of b) ∷ ps

-- the pieces of a text
unfoldable pub pieces : List ℕ → List Piece
pieces [] = []
pieces (b ∷ bs) = byte_before b (pieces bs)

-- what is read from the front of some tokens, and the pieces of those after it
abbrev pub in_pieces : {A : Type 0} → A × Bor (List Token) → A × List Piece
in_pieces f = (f.0, map piece_of f.1.now)
