-- Numbers of the source: decimal, and hexadecimal after `0x` or `&`, below 2^32.
use Rattle.std.specs.Prelude.{◌==◌, ◌&&◌, ◌^◌, nat_lt, min, ℕ, List, [], ◌∷◌, length, Option, Some, None}
use Rattle.std.specs.Prelude.{if◌then◌else◌}
use Rattle.std.specs.Char.{is_digit}
use Rattle.std.specs.List.{list_all}
use Rattle.std.specs.Str.Parse.{digits_value}
use Rattle.asm_text.specs.Pieces.{Piece, Run, Sign}
use Rattle.asm_text.specs.declared.token.Mark.TheVariants.{Ampersand}

-- one digit or more, of either case
abbrev pub digits_of : ℕ → List ℕ → Option ℕ
digits_of radix d =
    if nat_lt 0 (length d) && list_all (λ c. is_digit c radix) d then Some (digits_value radix d) else None

-- a number of 32 bits
abbrev pub fits : Option ℕ → Option ℕ
fits None = None
fits (Some n) = if nat_lt n (2 ^ 32) then Some n else None

-- a number that is too large, cut to 2^32
abbrev pub capped : Option ℕ → Option ℕ
capped None = None
capped (Some n) = Some (min n (2 ^ 32))

abbrev pub number_by : ℕ → List ℕ → Option ℕ
number_by radix d = fits (digits_of radix d)

abbrev pub after_zero : List ℕ → Option ℕ
after_zero [] = number_by 10 (48 ∷ [])
after_zero (c ∷ d) = if c == 120 then number_by 16 d else number_by 10 (48 ∷ c ∷ d)

-- after `0x` hexadecimal, else decimal
abbrev pub read_number : List ℕ → Option ℕ
read_number [] = None
read_number (c ∷ d) = if c == 48 then after_zero d else number_by 10 (c ∷ d)

-- what was read, and the pieces after it
abbrev pub with_rest : {A : Type 0} → List Piece → Option A → Option (A × List Piece)
with_rest ps None = None
with_rest ps (Some a) = Some (a, ps)

abbrev pub first_hex : List Piece → Option (ℕ × List Piece)
first_hex (Run d ∷ ps) = with_rest ps (number_by 16 d)
first_hex _ = None

-- a number at the front
abbrev pub first_number : List Piece → Option (ℕ × List Piece)
first_number (Run d ∷ ps) = with_rest ps (read_number d)
first_number (Sign Ampersand ∷ ps) = first_hex ps
first_number _ = None
