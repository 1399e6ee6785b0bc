-- The number of a word's bits is the word.
use Rattle.std.proofs.Common.{◌≡◌, ℕ, zero, suc, ◌/◌, ◌%◌, ◌^◌, ◌<◌, ◌==◌, refl, sym, ◌∙◌, ap, arith}
use Rattle.arm2_decode.specs.Allowed.{bit_of}
use Rattle.arm2_decode.proofs.FieldLemmas.{bit_again}
use Rattle.shifter.specs.declared.shifts.Shifted.{Shifted}
use Rattle.shifter.specs.Shifts.{BitsAndCarry, Has}
use Rattle.shifter.specs.Word.{bits_from}
use Rattle.arm2_effect.specs.Operands.{word_of, shifted_of}

word_of-bits_from : (k x : ℕ) → x < 2 ^ k → word_of (bits_from k x) ≡ x
unfolding word_of bits_from
word_of-bits_from zero x h = omega arith
word_of-bits_from (suc k) x h =
    let low : bit_of (x % 2 == 1) ≡ x % 2 = bit_again (x % 2) (omega arith) in
    let high : word_of (bits_from k (x / 2)) ≡ x / 2 = word_of-bits_from k (x / 2) (omega arith) in
    rw (low, high) (omega arith)

pub shifted_is : (s : Shifted) (wanted : BitsAndCarry) → s.value < 2 ^ 32 → Has s wanted → s ≡ shifted_of wanted
shifted_is s wanted below h =
    let value : s.value ≡ word_of wanted.bits = sym (word_of-bits_from 32 s.value below) ∙ ap word_of h.value in
    rw (← value, ← h.carry) refl
