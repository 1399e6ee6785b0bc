-- How pieces are written, one after the other.
use Rattle.std.specs.Prelude.{◌≡◌, ◌==◌, ◌<◌, ℕ, Bool, true, false, List, [], ◌∷◌, ◌++◌, length}
use Rattle.std.specs.List.{list_all}
use Rattle.asm_text.specs.Pieces.{Piece, Run, Comma, Sign, Gap, is_blank, is_name, mark_of}

abbrev pub IsBlanks : List ℕ → Type 0
IsBlanks text = list_all is_blank text ≡ true

-- blanks are allowed round a comma, and after the last piece
abbrev pub Written : List Piece → List ℕ → Type 0
Written [] text = IsBlanks text
Written (Run r ∷ ps) text =
    (rest : List ℕ) × (text ≡ r ++ rest) × (0 < length r) × (list_all is_name r ≡ true) × Written ps rest
Written (Comma ∷ ps) text =
    (before after rest : List ℕ) × (text ≡ before ++ (44 ∷ (after ++ rest))) × IsBlanks before
    × IsBlanks after × Written ps rest
Written (Sign m ∷ ps) text =
    (b : ℕ) × (rest : List ℕ) × (text ≡ b ∷ rest) × (is_blank b ≡ false) × (is_name b ≡ false)
    × ((b == 44) ≡ false) × (m ≡ mark_of b) × Written ps rest
Written (Gap ∷ ps) text =
    (gap rest : List ℕ) × (text ≡ gap ++ rest) × (0 < length gap) × IsBlanks gap × Written ps rest

abbrev pub starts_run : List Piece → Bool
starts_run (Run r ∷ ps) = true
starts_run _ = false

abbrev pub starts_gap : List Piece → Bool
starts_gap (Gap ∷ ps) = true
starts_gap _ = false

-- a gap may be written in front
abbrev pub may_follow_gap : List Piece → Bool
may_follow_gap (Run r ∷ ps) = true
may_follow_gap (Sign m ∷ ps) = true
may_follow_gap _ = false

-- a gap parts two runs; no gap is beside a comma, a gap or the end
abbrev pub WellSpaced : List Piece → Type 0
WellSpaced [] = Unit {0}
WellSpaced (Run r ∷ ps) = (starts_run ps ≡ false) × WellSpaced ps
WellSpaced (Comma ∷ ps) = (starts_gap ps ≡ false) × WellSpaced ps
WellSpaced (Sign m ∷ ps) = WellSpaced ps
WellSpaced (Gap ∷ ps) = (may_follow_gap ps ≡ true) × WellSpaced ps
