-- Numbers with a base: its digit, a `_` and digits.
use Rattle.std.specs.Prelude.{ℕ, ◌-◌, ◌==◌, nat_lt, List, ◌∷◌, Option, None, if◌then◌else◌}
use Rattle.asm_text.specs.Numbers.{number_by, read_number}

-- the digit of a base is 2 to 9
abbrev pub by_base : ℕ → List ℕ → Option ℕ
by_base base digits =
    if nat_lt base 50 then None else if nat_lt 57 base then None else number_by (base - 48) digits

-- with a base, or decimal, or hexadecimal after `0x`
abbrev pub read_numeral : List ℕ → Option ℕ
read_numeral (base ∷ b ∷ digits) = if b == 95 then by_base base digits else read_number (base ∷ b ∷ digits)
read_numeral text = read_number text
