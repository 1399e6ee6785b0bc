-- What is known of a word.
use Rattle.std.specs.Prelude.{◌≡◌, ℕ, ◌+◌, ◌*◌, ◌%◌, ◌^◌, ◌≤◌, Bool, List, slice_index}
use Rattle.arm2_decode.specs.declared.names.Opcode.{Opcode}
use Rattle.arm2_decode.specs.declared.names.Shift.{Shift}
use Rattle.arm2_decode.specs.declared.flags.Flags.{Flags}
use Rattle.shifter.specs.Shifts.{by_immediate}
use Rattle.shifter.specs.Word.{word_bits}
use Rattle.arm2_effect.specs.Operands.{current_in, word_of}
use Rattle.arm2_effect.specs.Outcomes.{outcome_of}
use Rattle.arm2_effect.specs.ProgramCounter.{address_of}
use Rattle.known_words.specs.declared.words.Known.{Known}
use Rattle.known_words.specs.declared.words.Known.TheVariants.{Address, Any, Word}
use Rattle.known_words.specs.declared.words.Range.{Range}
use Rattle.known_words.specs.declared.words.Start.{Start}
use Rattle.known_words.specs.declared.words.Start.TheVariants.{Entry, Zero}
use Rattle.known_words.specs.declared.words.Steps.{Steps}
use Rattle.known_words.specs.declared.words.Sum.{Sum}

-- ## Words

-- the word that a sum is counted from, by the registers at the entry
abbrev pub start_in : Start → (entry : List ℕ) → ℕ
start_in Zero entry = 0
start_in (Entry register) entry = current_in register entry

-- what the turns of the four outermost loops around add, the outermost first; a loop that is not there has
-- not turned
abbrev pub turned : Steps → (turns : List ℕ) → ℕ
turned steps turns =
    steps.outermost * slice_index turns 0 + steps.second * slice_index turns 1
    + steps.third * slice_index turns 2 + steps.fourth * slice_index turns 3

-- a word is the start word and a number of the range above it, with what the turns add, on 32 bits
pub record IsSum (entry turns : List ℕ) (sum : Sum) (word : ℕ) : Type 0 where
  pub more : ℕ
  pub within : more ≤ sum.width
  pub is : word ≡ (start_in sum.start entry + sum.least + more + turned sum.steps turns) % 2 ^ 32

-- a word in a plain range, its ends included
abbrev pub IsIn : Range → ℕ → Type 0
IsIn range word = (range.low ≤ word) × (word ≤ range.high)

-- what is known of a word is so, by the registers at the entry and where the loops around have turned so
-- often
abbrev pub IsKnown : (entry turns : List ℕ) → Known → (word : ℕ) → Type 0
IsKnown entry turns Any word = Unit {0}
IsKnown entry turns (Address address) word = address_of word ≡ address
IsKnown entry turns (Word known) word = IsSum entry turns known.sum word × IsIn known.range word

abbrev pub IsExactly : Known → ℕ → Type 0
IsExactly known word = (entry turns : List ℕ) → IsKnown entry turns known word

-- ## What is made of them

-- of two known words the operation makes a known one, whatever the flags and the shifter's carry
abbrev pub Computes : Opcode → (first operand result : Known) → Type 0
Computes opcode first operand result =
    (entry turns : List ℕ) (x y : ℕ) (carry : Bool) (flags : Flags) → IsKnown entry turns first x
    → IsKnown entry turns operand y
    → IsKnown entry turns result (outcome_of opcode x (record { value = y; carry = carry }) flags).value

-- of a known word the shift by an amount in the instruction makes a known one
abbrev pub Shifts : Shift → (amount : ℕ) → (known result : Known) → Type 0
Shifts shift amount known result =
    (entry turns : List ℕ) (word : ℕ) (carry : Bool) → IsKnown entry turns known word
    → IsKnown entry turns result (word_of (by_immediate shift amount (word_bits word) carry).bits)
