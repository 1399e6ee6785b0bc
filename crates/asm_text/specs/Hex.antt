-- Numbers in upper-case hexadecimal.
use Rattle.std.specs.Prelude.{ℕ, zero, suc, ◌/◌, ◌%◌, true, List, [], ◌∷◌, ◌++◌}
use Rattle.std.specs.Fmt.{digits, digit_glyph}

-- without leading zeros
abbrev pub hex : ℕ → List ℕ
hex n = digits 16 true n

abbrev pub hex_digit : ℕ → ℕ
hex_digit d = digit_glyph true d

-- so many digits, the lowest last, with zeros in front
abbrev pub hex_digits : ℕ → ℕ → List ℕ
hex_digits zero n = []
hex_digits (suc places) n = hex_digits places (n / 16) ++ hex_digit (n % 16) ∷ []

abbrev pub hex8 : ℕ → List ℕ
hex8 n = hex_digits 8 n
