-- A word as a list of its bits, the lowest first.
use Rattle.std.specs.Prelude.{ℕ, zero, suc, ◌/◌, ◌%◌, ◌^◌, ◌-◌, ◌==◌, Bool, true, false, List, [], ◌∷◌}

-- the lowest bits of a number
unfoldable pub bits_from : ℕ → ℕ → List Bool
bits_from zero number = []
bits_from (suc k) number = (number % 2 == 1) ∷ bits_from k (number / 2)

abbrev pub word_bits : ℕ → List Bool
word_bits word = bits_from 32 word

-- a word of copies of one bit
abbrev pub fill_word : Bool → ℕ
fill_word true = 2 ^ 32 - 1
fill_word false = 0
