-- Shifts of a list of 32 bits, the lowest first (VL86C010 data sheet, barrel shifter), and the cycles of a
-- multiply.
use Rattle.std.specs.Prelude.{ℕ, zero, suc, ◌+◌, ◌-◌, ◌*◌, ◌%◌, ◌^◌, ◌≡◌, ◌==◌, nat_lt, Bool, false}
use Rattle.std.specs.Prelude.{if◌then◌else◌, List, [], ◌∷◌, ◌++◌, take, drop, replicate, slice_index_or}
use Rattle.arm2_decode.specs.declared.names.Shift.{Shift as Kind}
use Rattle.arm2_decode.specs.declared.names.Shift.TheVariants.{Lsl, Lsr, Asr, Ror}
use Rattle.shifter.specs.declared.shifts.Shifted.{Shifted}
use Rattle.shifter.specs.Word.{word_bits}

-- the result of a shift: 32 bits, and the carry
pub record BitsAndCarry : Type 0 where
  pub bits : List Bool
  pub carry : Bool

-- zeros come in below; the carry is the last bit that goes out above
abbrev pub left : ℕ → List Bool → BitsAndCarry
left n bits =
    record {
      bits = take 32 (replicate n false ++ bits);
      carry = slice_index_or (replicate n false ++ bits) 32 false;
    }

-- copies of fill come in above; the carry is the last bit that goes out below
abbrev pub right : ℕ → Bool → List Bool → BitsAndCarry
right n fill bits =
    record {
      bits = drop n (bits ++ replicate n fill);
      carry = slice_index_or (bits ++ replicate n fill) (n - 1) false;
    }

-- the bits that go out below come in above; the carry is the top bit afterwards
abbrev pub rotated_bits : ℕ → List Bool → List Bool
rotated_bits n bits = drop (n % 32) bits ++ take (n % 32) bits

abbrev pub rotated : ℕ → List Bool → BitsAndCarry
rotated n bits = record { bits = rotated_bits n bits; carry = slice_index_or (rotated_bits n bits) 31 false }

-- a rotation by one through the carry
abbrev pub extended : List Bool → Bool → BitsAndCarry
extended bits carry = record { bits = drop 1 bits ++ carry ∷ []; carry = slice_index_or bits 0 false }

-- by an amount that is not 0
abbrev pub by_nonzero : Kind → ℕ → List Bool → BitsAndCarry
by_nonzero Lsl n bits = left n bits
by_nonzero Lsr n bits = right n false bits
by_nonzero Asr n bits = right n (slice_index_or bits 31 false) bits
by_nonzero Ror n bits = rotated n bits

-- by an amount in a register: 0 keeps value and carry
abbrev pub by_register : Kind → ℕ → List Bool → Bool → BitsAndCarry
by_register kind n bits carry =
    if n == 0 then record { bits = bits; carry = carry } else by_nonzero kind n bits

-- by an amount in the word: LSR 0 and ASR 0 mean 32, and ROR 0 goes through the carry
abbrev pub by_immediate : Kind → ℕ → List Bool → Bool → BitsAndCarry
by_immediate Lsl n bits carry = by_register Lsl n bits carry
by_immediate Lsr n bits carry = by_register Lsr (if n == 0 then 32 else n) bits carry
by_immediate Asr n bits carry = by_register Asr (if n == 0 then 32 else n) bits carry
by_immediate Ror n bits carry = if n == 0 then extended bits carry else by_register Ror n bits carry

-- the word has the bits, and the carry is the carry
pub record Has (result : Shifted) (wanted : BitsAndCarry) : Type 0 where
  pub value : word_bits result.value ≡ wanted.bits
  pub carry : result.carry ≡ wanted.carry

-- the least m from the given one on with number < 2 ^ (2 * m - 1), or the last one
unfoldable pub cycles_from : (left m number : ℕ) → ℕ
cycles_from zero m number = m
cycles_from (suc left) m number =
    if nat_lt number (2 ^ (2 * m - 1)) then m else cycles_from left (m + 1) number

-- the cycles of a multiply by a number: 1 for 0 and 1; m for 2 ^ (2 * m - 3) up to 2 ^ (2 * m - 1) - 1; and
-- 16 from 2 ^ 29 on
abbrev pub multiply_cycles : ℕ → ℕ
multiply_cycles number = cycles_from 15 1 number
