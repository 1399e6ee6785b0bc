-- Lists of registers that are not in the order of their numbers.
use Rattle.std.specs.Prelude.{ℕ, ◌+◌, ◌==◌, not, drop, take, ◌||◌, Bool, false}
use Rattle.std.specs.Prelude.{if◌then◌else◌, List, [], ◌∷◌, ◌++◌, codes, nat_lt}
use Rattle.std.specs.Prelude.{Option, Some, None}
use Rattle.std.specs.List.{prefix_len, slice_split}
use Rattle.arm2_decode.specs.Names.{register_number}
use Rattle.arm2_decode.specs.declared.names.Register.{Register}
use Rattle.asm_text.specs.Registers.{register_of}
use Rattle.asm_text.specs.Statements.{body}
use Rattle.text_listing.specs.declared.listing_columns.TheConstants.{WORD_COLUMNS}
use Rattle.text_rows.specs.Columns.{in_columns}

-- how many bytes stand before the first mark; what stands before it, or all; what stands after it, or nothing
abbrev pub len_before : (mark : ℕ) → List ℕ → ℕ
len_before mark text = prefix_len (λ b. not (b == mark)) text

abbrev pub before : (mark : ℕ) → List ℕ → List ℕ
before mark text = take (len_before mark text) text

abbrev pub after : (mark : ℕ) → List ℕ → List ℕ
after mark text = drop (len_before mark text + 1) text

-- what stands in the braces of a line, in front of its comment
abbrev pub in_braces : List ℕ → List ℕ
in_braces line = before 125 (after 123 (body line))

-- a comma, the mark of a run, or a blank
abbrev pub is_between : ℕ → Bool
is_between b = (b == 44 || b == 45) || (b == 32 || b == 9)

-- the registers that are named there, in the text's order, and empty texts between two that are not names
abbrev pub names_in : List ℕ → List (List ℕ)
names_in line = slice_split is_between (in_braces line)

abbrev pub register_or : (before : ℕ) → Option Register → ℕ
register_or before None = before
register_or before (Some r) = register_number r

-- the number of a register, and where a text names none that of the one before
abbrev pub number_or : (before : ℕ) → List ℕ → ℕ
number_or before name = register_or before (register_of name)

-- a register's number is below that of the one before
abbrev pub falls_from : (before : ℕ) → List (List ℕ) → Bool
falls_from before [] = false
falls_from before (name ∷ names) =
    nat_lt (number_or before name) before || falls_from (number_or before name) names

abbrev pub is_out_of_order : (line : List ℕ) → Bool
is_out_of_order line = falls_from 0 (names_in line)

-- a row where the text of a line begins
abbrev pub note_row : List ℕ
note_row =
    in_columns WORD_COLUMNS [] ++ codes "          note: registers go in the order of their numbers\n"

-- below such a line
abbrev pub order_note : (line : List ℕ) → List ℕ
order_note line = if is_out_of_order line then note_row else []
