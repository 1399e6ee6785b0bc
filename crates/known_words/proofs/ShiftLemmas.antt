-- Shifts of words, as numbers.
use Rattle.std.proofs.Common.{◌≡◌, ◌≢◌, ℕ, ◌+◌, ◌*◌, ◌/◌, ◌%◌, ◌^◌, ◌<◌, ◌≤◌, ◌-◌, ◌==◌, Bool, true, false, cond, List, ◌++◌, drop, refl, sym, ap, ◌∙◌, arith}
use Rattle.std.proofs.Math.ListN.{replicate}
use Rattle.std.proofs.lemmas.Bool.{cond-false, ne_eqb}
use Rattle.std.proofs.lemmas.List.{drop-append-le}
use Rattle.std.proofs.lemmas.Nat.{shr_below, shr_le}
use Rattle.arm2_decode.specs.declared.names.Shift.TheVariants.{Lsl, Lsr, Ror}
use Rattle.shifter.specs.declared.shifts.Shifted.{Shifted}
use Rattle.shifter.specs.Shifts.{BitsAndCarry, Has, by_immediate, by_register, left, right}
use Rattle.shifter.specs.Word.{bits_from, word_bits}
use Rattle.shifter.proofs.BitLists.{bits_from-cat, bits_from-zero, drop-bits_from, length-bits_from, same_bits}
use Rattle.shifter.proofs.ShiftLemmas.{left_value}
use Rattle.arm2_effect.specs.Operands.{rotated_byte, word_of}
use Rattle.arm2_effect.specs.ProgramCounter.{address_of, flags_of}
use Rattle.arm2_effect.specs.Modes.{r15_in}
use Rattle.arm2_effect.proofs.Words.{shifted_is}
use Rattle.known_words.specs.Known.{IsKnown}
use Rattle.known_words.specs.declared.words.Known.{Known}
use Rattle.known_words.specs.declared.words.Known.TheVariants.{Address, Any, Word}

-- the number of a list of bits
number_is : (wanted : BitsAndCarry) (value : ℕ) → value < 2 ^ 32 → word_bits value ≡ wanted.bits
    → word_of wanted.bits ≡ value
number_is wanted value below is =
    sym
    (ap (λ (s : Shifted). s.value)
    (shifted_is (record { value = value; carry = wanted.carry }) wanted below (record { value = is; carry = refl })))

word_back : (word : ℕ) → word_of (word_bits word) ≡ word % 2 ^ 32
word_back word =
    number_is (record { bits = word_bits word; carry = false }) (word % 2 ^ 32) (omega arith)
    (same_bits 32 (word % 2 ^ 32) word (omega arith))

module _ (amount : ℕ) (some : amount ≢ 0) (word : ℕ) (carry : Bool) where
  pub left_number : amount ≤ 32 → word_of (by_immediate Lsl amount (word_bits word) carry).bits ≡ word * 2 ^ amount % 2 ^ 32
  left_number few =
      ap (λ (b : BitsAndCarry). word_of b.bits)
      (cond-false (amount == 0) (record { bits = word_bits word; carry = carry }) (left amount (word_bits word)) (ne_eqb amount 0 some))
      ∙ number_is (left amount (word_bits word)) (word * 2 ^ amount % 2 ^ 32) (omega arith) (left_value amount word few)

  right_bits : amount ≤ 32 → word < 2 ^ 32
      → word_bits (word / 2 ^ amount) ≡ drop amount (word_bits word ++ replicate amount false)
  right_bits few below =
      let whole : 32 ≡ (32 - amount) + amount = omega (arith, few) in
      let split : 32 ≡ amount + (32 - amount) = omega (arith, few) in
      let low : word / 2 ^ amount < 2 ^ (32 - amount) = shr_below word (32 - amount) amount (rw (← whole) below) in
      let plain : word / 2 ^ amount ≡ 0 * 2 ^ (32 - amount) + word / 2 ^ amount = omega arith in
      ap word_bits plain
      ∙ bits_from-cat (32 - amount) amount 32 0 (word / 2 ^ amount) whole low
      ∙ ap (λ x. bits_from (32 - amount) (word / 2 ^ amount) ++ x) (bits_from-zero amount)
      ∙ ap (λ x. x ++ replicate amount false) (sym (drop-bits_from amount (32 - amount) 32 word split))
      ∙ sym (drop-append-le amount (word_bits word) (replicate amount false) (omega (arith, few, length-bits_from 32 word)))

  at_amount : (n : ℕ) → (amount == 0) ≡ false → cond (amount == 0) n amount ≡ amount
  at_amount n is = ap (λ (b : Bool). cond b n amount) is

  pub right_number : amount ≤ 32 → word < 2 ^ 32
      → word_of (by_immediate Lsr amount (word_bits word) carry).bits ≡ word / 2 ^ amount
  right_number few below =
      let no_zero = ne_eqb amount 0 some in
      let small : word / 2 ^ amount < 2 ^ 32 = quotient_below in
      ap (λ (n : ℕ). word_of (by_register Lsr n (word_bits word) carry).bits) (at_amount 32 no_zero)
      ∙ ap (λ (b : BitsAndCarry). word_of b.bits) (cond-false (amount == 0) (record { bits = word_bits word; carry = carry }) (right amount false (word_bits word)) no_zero)
      ∙ number_is (right amount false (word_bits word)) (word / 2 ^ amount) small (right_bits few below)
    where
      quotient_below : word / 2 ^ amount < 2 ^ 32
      quotient_below = let less = shr_le word amount in omega (arith, below, less)

-- LSL 0 keeps what is known
pub unshifted : (entry turns : List ℕ) (known : Known) (word : ℕ) → IsKnown entry turns known word
    → IsKnown entry turns known (word_of (word_bits word))
unshifted entry turns Any word is = tt
unshifted entry turns (Address a) word is =
    let same : address_of (word % 2 ^ 32) ≡ address_of word = omega arith in
    ap address_of (word_back word) ∙ same ∙ is
unshifted entry turns (Word known) word is =
    let sum = is.0.is in
    let same : word % 2 ^ 32 ≡ word = omega (arith, sum) in
    rw (word_back word ∙ same) is

-- ## Rotations

value_apart : (b : Bool) (bits : _) (c d : Bool) (y : BitsAndCarry)
    → (cond b (record { bits = bits; carry = c }) y).bits ≡ (cond b (record { bits = bits; carry = d }) y).bits
value_apart true bits c d y = refl
value_apart false bits c d y = refl

pub rotated_is : (s : Shifted) (value rotation : ℕ) → s.value < 2 ^ 32
    → Has s (by_register Ror (2 * rotation) (word_bits value) false) → (regs : List ℕ)
    → (rotated_byte value rotation regs).value ≡ s.value
rotated_is s value rotation below has regs =
    let carry = (flags_of (r15_in regs)).carry in
    ap word_of (value_apart (2 * rotation == 0) (word_bits value) carry false _)
    ∙ number_is (by_register Ror (2 * rotation) (word_bits value) false) s.value below has.value
