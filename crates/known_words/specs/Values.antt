-- What data processing makes of numbers and of ranges.
use Rattle.std.specs.Prelude.{◌≡◌, ℕ, ◌≤◌, Bool, List}
use Rattle.arm2_decode.specs.declared.flags.Flags.{Flags}
use Rattle.arm2_decode.specs.declared.names.Opcode.{Opcode}
use Rattle.arm2_effect.specs.Outcomes.{outcome_of}
use Rattle.known_words.specs.Known.{IsKnown}
use Rattle.known_words.specs.declared.words.Known.{Known}

-- the operation gives this value of two numbers, whatever the flags and the shifter's carry
abbrev pub GivesValue : Opcode → (x y value : ℕ) → Type 0
GivesValue opcode x y value =
    (carry : Bool) (flags : Flags) → (outcome_of opcode x (record { value = y; carry = carry }) flags).value ≡ value

-- what is no more than a known word
abbrev pub IsWithin : (known result : Known) → Type 0
IsWithin known result =
    (entry turns : List ℕ) (word most : ℕ) → IsKnown entry turns known most → word ≤ most
    → IsKnown entry turns result word
