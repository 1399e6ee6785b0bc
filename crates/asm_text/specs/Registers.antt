-- The names of registers and shifts, wholly in upper or in lower case.
use Rattle.std.specs.Prelude.{ℕ, Bool, ◌||◌, List, [], ◌∷◌, ◌++◌, codes, Option, Some, None, map}
use Rattle.std.specs.Prelude.{if◌then◌else◌}
use Rattle.std.specs.Borrow.{Bor}
use Rattle.std.specs.Str.{bytes_eq, str_to_ascii_lowercase}
use Rattle.asm_text.specs.Pieces.{Piece, Run, Comma}
use Rattle.asm_text.specs.Numbers.{with_rest}
use Rattle.arm2_decode.specs.declared.names.Register.{Register}
use Rattle.arm2_decode.specs.declared.names.Register.TheVariants.{R0, R1, R2, R3, R4, R5, R6, R7, R8, R9, R10}
use Rattle.arm2_decode.specs.declared.names.Register.TheVariants.{R11, R12, R13, R14, R15}
use Rattle.arm2_decode.specs.declared.names.Shift.{Shift}
use Rattle.arm2_decode.specs.declared.names.Shift.TheVariants.{Lsl, Lsr, Asr, Ror}

abbrev pub register_names : List (List ℕ × Register)
register_names =
    (codes "R0", R0) ∷ (codes "R1", R1) ∷ (codes "R2", R2) ∷ (codes "R3", R3) ∷ (codes "R4", R4)
    ∷ (codes "R5", R5) ∷ (codes "R6", R6) ∷ (codes "R7", R7)
    ∷ (codes "R8", R8) ∷ (codes "R9", R9) ∷ (codes "R10", R10) ∷ (codes "R11", R11) ∷ (codes "R12", R12)
    ∷ (codes "R13", R13) ∷ (codes "R14", R14) ∷ (codes "R15", R15)
    ∷ (codes "SP", R13) ∷ (codes "LR", R14) ∷ (codes "PC", R15) ∷ []

abbrev pub shift_names : List (List ℕ × Shift)
shift_names = (codes "LSL", Lsl) ∷ (codes "LSR", Lsr) ∷ (codes "ASR", Asr) ∷ (codes "ROR", Ror) ∷ []

-- the names, and the same in lower case
abbrev pub in_both_cases : {A : Type 0} → List (List ℕ × A) → List (List ℕ × A)
in_both_cases names = names ++ map (λ e. (str_to_ascii_lowercase e.0, e.1)) names

-- what the text names
abbrev pub named_in : {A : Type 0} → List (List ℕ × A) → List ℕ → Option A
named_in [] text = None
named_in (e ∷ es) text = if bytes_eq text e.0 then Some e.1 else named_in es text

-- a row of the code's table, its name by its bytes
abbrev pub name_of : {A : Type 0} → Bor (List ℕ) × A → List ℕ × A
name_of row = (row.0.now, row.1)

unfoldable pub register_of : List ℕ → Option Register
register_of text = named_in (in_both_cases register_names) text

unfoldable pub shift_of : List ℕ → Option Shift
shift_of text = named_in (in_both_cases shift_names) text

abbrev pub is_rrx : List ℕ → Bool
is_rrx text = bytes_eq text (codes "RRX") || bytes_eq text (codes "rrx")

-- a register at the front
abbrev pub first_register : List Piece → Option (Register × List Piece)
first_register (Run r ∷ ps) = with_rest ps (register_of r)
first_register _ = None

-- a register and a comma
abbrev pub first_register_comma : List Piece → Option (Register × List Piece)
first_register_comma (Run r ∷ Comma ∷ ps) = with_rest ps (register_of r)
first_register_comma _ = None
