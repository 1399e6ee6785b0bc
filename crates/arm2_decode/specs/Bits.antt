-- Bits and fields of a word.
use Rattle.std.specs.Prelude.{Bool, ℕ, ◌+◌, ◌-◌, ◌/◌, ◌%◌, ◌^◌, ◌==◌}

-- a bit of a word, counted from 0
abbrev pub bit_of_word : ℕ → ℕ → Bool
bit_of_word word bit = word / 2 ^ bit % 2 == 1

-- the bits hi to lo of a word, counted from 0, as a number
abbrev pub bits : ℕ → ℕ → ℕ → ℕ
bits hi lo word = word / 2 ^ lo % 2 ^ (hi + 1 - lo)
