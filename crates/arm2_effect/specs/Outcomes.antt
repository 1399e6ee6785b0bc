-- What data processing computes (VL86C010 data sheet, data processing): the word, C and V of each operation.
use Rattle.std.specs.Prelude.{ℕ, ◌+◌, ◌-◌, ◌%◌, ◌^◌, ◌==◌, ◌&&◌, not, nat_le, nat_lt, Bool, false}
use Rattle.std.specs.Prelude.{bit_and, bit_or, bit_xor}
use Rattle.arm2_decode.specs.Allowed.{bit_of}
use Rattle.arm2_decode.specs.declared.flags.Flags.{Flags}
use Rattle.arm2_decode.specs.declared.names.Opcode.{Opcode}
use Rattle.arm2_decode.specs.declared.names.Opcode.TheVariants.{And, Eor, Sub, Rsb, Add, Adc, Sbc, Rsc, Tst}
use Rattle.arm2_decode.specs.declared.names.Opcode.TheVariants.{Teq, Cmp, Cmn, Orr, Mov, Bic, Mvn}
use Rattle.shifter.specs.declared.shifts.Shifted.{Shifted}
use Rattle.arm2_effect.specs.declared.outcomes.Outcome.{Outcome}

-- the signed value of a word in two's complement, plus 2 ^ 31
abbrev pub biased : ℕ → ℕ
biased x = (x + 2 ^ 31) % 2 ^ 32

-- plus - minus - 2 ^ 31 is a signed word: it is from - 2 ^ 31 to 2 ^ 31 - 1
abbrev pub is_signed_word : ℕ → ℕ → Bool
is_signed_word plus minus = nat_le minus plus && nat_lt plus (minus + 2 ^ 32)

-- x + y, and 1 more with a carry in. C: the carry out. V: the sum of the signed values is no signed word.
abbrev pub sum_of : ℕ → ℕ → Bool → Outcome
sum_of x y carry =
    record {
      value = (x + y + bit_of carry) % 2 ^ 32;
      carry = nat_le (2 ^ 32) (x + y + bit_of carry);
      overflow = not (is_signed_word (biased x + biased y + bit_of carry) (2 ^ 31));
    }

-- x - y, and 1 less with a borrow. C: no borrow out. V: the difference of the signed values is no signed
-- word.
abbrev pub difference_of : ℕ → ℕ → Bool → Outcome
difference_of x y borrow =
    record {
      value = (x + 2 ^ 32 - (y + bit_of borrow)) % 2 ^ 32;
      carry = nat_le (y + bit_of borrow) x;
      overflow = not (is_signed_word (biased x + 2 ^ 31) (biased y + bit_of borrow));
    }

-- a word of bits: C is that of the shifter, and V stays
abbrev pub bits_of : ℕ → Shifted → Flags → Outcome
bits_of value operand flags = record { value = value; carry = operand.carry; overflow = flags.overflow }

-- each bit of a word turned
abbrev pub inverted : ℕ → ℕ
inverted y = 2 ^ 32 - 1 - y

-- Rn, the second operand and the flags before: a borrow comes in where C is clear
abbrev pub outcome_of : Opcode → ℕ → Shifted → Flags → Outcome
outcome_of And x y f = bits_of (bit_and x y.value) y f
outcome_of Eor x y f = bits_of (bit_xor x y.value) y f
outcome_of Sub x y f = difference_of x y.value false
outcome_of Rsb x y f = difference_of y.value x false
outcome_of Add x y f = sum_of x y.value false
outcome_of Adc x y f = sum_of x y.value f.carry
outcome_of Sbc x y f = difference_of x y.value (not f.carry)
outcome_of Rsc x y f = difference_of y.value x (not f.carry)
outcome_of Tst x y f = bits_of (bit_and x y.value) y f
outcome_of Teq x y f = bits_of (bit_xor x y.value) y f
outcome_of Cmp x y f = difference_of x y.value false
outcome_of Cmn x y f = sum_of x y.value false
outcome_of Orr x y f = bits_of (bit_or x y.value) y f
outcome_of Mov x y f = bits_of y.value y f
outcome_of Bic x y f = bits_of (bit_and x (inverted y.value)) y f
outcome_of Mvn x y f = bits_of (inverted y.value) y f

-- N is bit 31, Z says that all bits are 0
abbrev pub flags_after : Outcome → Flags
flags_after o =
    record { negative = nat_le (2 ^ 31) o.value; zero = o.value == 0; carry = o.carry; overflow = o.overflow }
