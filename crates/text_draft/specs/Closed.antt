-- A begun statement as one that can be read: something stands for a "?", and each line stays.
use Rattle.std.specs.Prelude.{ℕ, ◌==◌, ◌&&◌, ◌||◌, Bool, true, false, nat_eq, if◌then◌else◌, List, [], ◌∷◌}
use Rattle.std.specs.Prelude.{◌++◌, codes}
use Rattle.std.specs.List.{starts_with}
use Rattle.text_draft.specs.declared.closing.Key.{Key}
use Rattle.text_draft.specs.declared.closing.Key.TheVariants.{To, Bound, Other}
use Rattle.text_draft.specs.declared.closing.Spot.{Spot}
use Rattle.text_draft.specs.declared.closing.Spot.TheVariants.{Elsewhere, T, B, Bo, Bou, Boun, Behind, Equals}
use Rattle.text_draft.specs.declared.closing.Spot.TheVariants.{InString, Comment}
use Rattle.text_draft.specs.declared.closing.Spot.TheVariants.{WholeMark, WholeQuote, BoundMark, Mark, Quote}

-- ## Bytes

-- a blank or a tab
abbrev pub is_blank : ℕ → Bool
is_blank byte = (byte == 32) || (byte == 9)

-- a "?" begins with the byte, in front of the rest
abbrev pub begins_mark : ℕ → List ℕ → Bool
begins_mark byte rest = (byte == 34) && starts_with nat_eq rest (codes "?\"")

-- ## Where a byte stands

-- behind a byte, whatever is in front of it: 116 is t, 98 b, 61 =, 34 the mark of a string, and 35 #
abbrev pub spot_behind : ℕ → Spot
spot_behind byte =
    if byte == 116 then T
    else if byte == 98 then B
    else if byte == 61 then Equals Other
    else if byte == 34 then InString
    else if byte == 35 then Comment
    else Elsewhere

-- behind a byte that goes on with a key if it is that letter
abbrev pub spot_if : (letter : ℕ) → Spot → ℕ → Spot
spot_if letter next byte = if byte == letter then next else spot_behind byte

abbrev pub spot_after_key : Key → ℕ → Spot
spot_after_key key byte =
    if byte == 61 then Equals key else if is_blank byte then Behind key else spot_behind byte

-- behind a byte that begins no "?" for which something stands, by what is in front of it. The keys are
-- `to` and `bound`, by their letters: 111 is o, 117 u, 110 n, and 100 d
abbrev pub spot_after : Spot → ℕ → Spot
spot_after T byte = spot_if 111 (Behind To) byte
spot_after B byte = spot_if 111 Bo byte
spot_after Bo byte = spot_if 117 Bou byte
spot_after Bou byte = spot_if 110 Boun byte
spot_after Boun byte = spot_if 100 (Behind Bound) byte
spot_after (Behind key) byte = spot_after_key key byte
spot_after (Equals key) byte = if is_blank byte then Equals key else spot_behind byte
spot_after InString byte = if (byte == 34) || (byte == 10) then Elsewhere else InString
spot_after Comment byte = if byte == 10 then Elsewhere else Comment
spot_after WholeMark byte = WholeQuote
spot_after BoundMark byte = Quote
spot_after Mark byte = Quote
spot_after WholeQuote byte = Elsewhere
spot_after Quote byte = Elsewhere
spot_after Elsewhere byte = spot_behind byte

-- something may stand for a "?" there: behind `to =` and `bound =`, and where it is behind no `=`
abbrev pub may_close : Spot → Bool
may_close (Equals Other) = false
may_close InString = false
may_close Comment = false
may_close WholeQuote = false
may_close Quote = false
may_close _ = true

-- such a "?" begins with the byte, in front of the rest
abbrev pub closes : Spot → ℕ → List ℕ → Bool
closes spot byte rest = may_close spot && begins_mark byte rest

-- behind the first byte of such a "?"
abbrev pub spot_in_mark : Spot → Spot
spot_in_mark (Equals To) = WholeMark
spot_in_mark (Equals Bound) = BoundMark
spot_in_mark _ = Mark

-- ## What stands for a byte

-- for one that begins no such "?": 48 is 0, 93 ], and 32 a blank. Of a bound the first has the number
abbrev pub stands_for : Spot → ℕ → ℕ
stands_for WholeMark byte = 48
stands_for WholeQuote byte = 93
stands_for BoundMark byte = 32
stands_for Mark byte = 48
stands_for Quote byte = 32
stands_for _ byte = byte

-- for the first of such a "?": of a bound the greatest that may be stated
abbrev pub stands_for_first : Spot → List ℕ
stands_for_first (Equals To) = codes "["
stands_for_first (Equals Bound) = codes "1048576"
stands_for_first _ = codes " "

-- a "?" that is all of the destinations, behind `to =`, is the list [0]; one behind `bound =` the greatest
-- bound, so that it says least; one among the elements of a list the number 0 between blanks. Behind any
-- other `=`, and in a comment, it stays
abbrev pub closed_from : Spot → List ℕ → List ℕ
closed_from spot [] = []
closed_from spot (byte ∷ rest) =
    if closes spot byte rest then stands_for_first spot ++ closed_from (spot_in_mark spot) rest
    else stands_for spot byte ∷ closed_from (spot_after spot byte) rest

abbrev pub closed : List ℕ → List ℕ
closed text = closed_from Elsewhere text

-- there is such a "?"
abbrev pub has_mark_from : Spot → List ℕ → Bool
has_mark_from spot [] = false
has_mark_from spot (byte ∷ rest) = closes spot byte rest || has_mark_from (spot_after spot byte) rest

abbrev pub has_mark : List ℕ → Bool
has_mark text = has_mark_from Elsewhere text
