-- Words that are exchanged where a number fits as a rotated byte only the other way.
use Rattle.std.specs.Prelude.{ℕ, zero, suc, ◌-◌, ◌*◌, ◌%◌, ◌^◌, ◌==◌, ◌&&◌, ◌||◌, not, nat_lt, Bool, false}
use Rattle.std.specs.Prelude.{List, [], ◌∷◌, ◌++◌, codes, length, take, drop, Option, Some, None}
use Rattle.std.specs.Prelude.{Result, Ok, if◌then◌else◌}
use Rattle.std.specs.Int.{w32, rotate_left}
use Rattle.std.specs.Option.{option_or}
use Rattle.std.specs.Str.{bytes_eq}
use Rattle.objasm.specs.Names.{Meanings, mapped}
use Rattle.objasm.specs.Parts.{Part, Byte, after_blanks, first_field}
use Rattle.objasm.specs.Settings.{value_of}
use Rattle.objasm.specs.Words.{is_one_of}
use Rattle.objasm.specs.declared.exchanges.Flip.{Flip}
use Rattle.objasm.specs.declared.exchanges.Flip.TheVariants.{Invert, Negate}
use Rattle.objasm.specs.declared.faults.LineFault.{LineFault}

-- to the left by twice as many places it is a byte, for some number of fewer than so many
unfoldable pub rotated_below : ℕ → ℕ → Bool
rotated_below zero n = false
rotated_below (suc k) n = nat_lt (rotate_left w32 n (2 * k)) 256 || rotated_below k n

-- a byte that is rotated by an even number of places
abbrev pub is_rotated : ℕ → Bool
is_rotated n = rotated_below 16 n

abbrev pub flipped : Flip → ℕ → ℕ
flipped Invert n = 2 ^ 32 - 1 - n
flipped Negate n = (2 ^ 32 - n) % 2 ^ 32

-- the number fits only the other way
abbrev pub is_needed : Flip → ℕ → Bool
is_needed flip n = not (is_rotated n) && is_rotated (flipped flip n)

abbrev pub inverted_heads : List (List ℕ)
inverted_heads =
    codes "MOV" ∷ codes "MVN" ∷ codes "AND" ∷ codes "BIC" ∷ codes "mov" ∷ codes "mvn" ∷ codes "and"
    ∷ codes "bic" ∷ []

abbrev pub negated_heads : List (List ℕ)
negated_heads =
    codes "ADD" ∷ codes "SUB" ∷ codes "CMP" ∷ codes "CMN" ∷ codes "add" ∷ codes "sub" ∷ codes "cmp"
    ∷ codes "cmn" ∷ []

-- the word that does with the number changed what this one does with it, by their first three letters
abbrev pub other_head : List ℕ → List ℕ
other_head head =
    if bytes_eq head (codes "MOV") then codes "MVN"
    else if bytes_eq head (codes "MVN") then codes "MOV"
    else if bytes_eq head (codes "AND") then codes "BIC"
    else if bytes_eq head (codes "BIC") then codes "AND"
    else if bytes_eq head (codes "ADD") then codes "SUB"
    else if bytes_eq head (codes "SUB") then codes "ADD"
    else if bytes_eq head (codes "CMP") then codes "CMN"
    else if bytes_eq head (codes "CMN") then codes "CMP"
    else if bytes_eq head (codes "mov") then codes "mvn"
    else if bytes_eq head (codes "mvn") then codes "mov"
    else if bytes_eq head (codes "and") then codes "bic"
    else if bytes_eq head (codes "bic") then codes "and"
    else if bytes_eq head (codes "add") then codes "sub"
    else if bytes_eq head (codes "sub") then codes "add"
    else if bytes_eq head (codes "cmp") then codes "cmn"
    else if bytes_eq head (codes "cmn") then codes "cmp"
    else head

abbrev pub flip_of : List ℕ → Option Flip
flip_of word =
    if nat_lt (length word) 3 then None
    else if is_one_of inverted_heads (take 3 word) then Some Invert
    else if is_one_of negated_heads (take 3 word) then Some Negate
    else None

abbrev pub exchanged_word : List ℕ → List ℕ
exchanged_word word = if nat_lt (length word) 3 then word else other_head (take 3 word) ++ drop 3 word

-- ## The number

abbrev pub after_hash : List Part → Option (List Part)
after_hash (Byte b ∷ ps) = if b == 35 then Some (first_field ps) else None
after_hash _ = None

-- a comma, blanks, and what follows a `#`
abbrev pub immediate_at : List Part → Option (List Part)
immediate_at (Byte b ∷ ps) = if b == 44 then after_hash (after_blanks ps) else None
immediate_at _ = None

-- the first `#` behind a comma
unfoldable pub immediate_in : List Part → Option (List Part)
immediate_in [] = None
immediate_in (p ∷ ps) = option_or (immediate_at (p ∷ ps)) (immediate_in ps)

abbrev pub exchange_by : Meanings → Option Flip → Option (List Part) → Result (Option Flip) LineFault
exchange_by m (Some flip) (Some field) =
    mapped (λ n. if is_needed flip n then Some flip else None) (value_of m field)
exchange_by m _ _ = Ok None

-- how the number of an instruction is changed together with its word, if it is
abbrev pub exchange_of : Meanings → List ℕ → List Part → Result (Option Flip) LineFault
exchange_of m word ps = exchange_by m (flip_of word) (immediate_in ps)
