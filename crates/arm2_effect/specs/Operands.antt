-- Operands, and what the barrel shifter makes of them (VL86C010 data sheet, data processing).
use Rattle.std.specs.Prelude.{ℕ, ◌+◌, ◌*◌, ◌%◌, ◌^◌, Bool, if◌then◌else◌, List, [], ◌∷◌}
use Rattle.bus_ticks.specs.Prices.{ahead_of}
use Rattle.arm2_decode.specs.Allowed.{bit_of}
use Rattle.arm2_decode.specs.Names.{is_pc, register_number}
use Rattle.arm2_decode.specs.declared.names.Register.{Register}
use Rattle.arm2_decode.specs.declared.names.Shift.{Shift}
use Rattle.arm2_decode.specs.declared.names.Shift.TheVariants.{Ror}
use Rattle.shifter.specs.declared.shifts.Shifted.{Shifted}
use Rattle.shifter.specs.Shifts.{BitsAndCarry, by_immediate, by_register}
use Rattle.shifter.specs.Word.{word_bits}
use Rattle.arm2_effect.specs.declared.modes.Mode.{Mode}
use Rattle.arm2_effect.specs.Modes.{r15_in, register_in}
use Rattle.arm2_effect.specs.ProgramCounter.{address_of, flags_of, mode_of, r15_ahead}

-- the number of a list of bits, the lowest first
unfoldable pub word_of : List Bool → ℕ
word_of [] = 0
word_of (bit ∷ bits) = bit_of bit + 2 * word_of bits

abbrev pub shifted_of : BitsAndCarry → Shifted
shifted_of s = record { value = word_of s.bits; carry = s.carry }

-- the current mode: that in R15
abbrev pub current_mode : List ℕ → Mode
current_mode regs = mode_of (r15_in regs)

-- a register of the current mode
abbrev pub current_in : Register → List ℕ → ℕ
current_in register regs = register_in (current_mode regs) (register_number register) regs

-- A register as the first operand, or as a base: of R15 the address bits alone, so many bytes ahead.
abbrev pub first_of : ℕ → Register → List ℕ → ℕ
first_of by register regs =
    if is_pc register then ahead_of (address_of (r15_in regs)) by else current_in register regs

-- A register where it is shifted: of R15 all bits, with the address so many bytes ahead.
abbrev pub operand_of : ℕ → Register → List ℕ → ℕ
operand_of by register regs =
    if is_pc register then r15_ahead (r15_in regs) by else current_in register regs

-- a register that is shifted by an amount in the word
abbrev pub shifted_by_amount : Shift → ℕ → Register → List ℕ → Shifted
shifted_by_amount shift amount rm regs =
    shifted_of (by_immediate shift amount (word_bits (operand_of 8 rm regs)) (flags_of (r15_in regs)).carry)

-- a register that is shifted by the low byte of another
abbrev pub shifted_by_register : Shift → Register → Register → List ℕ → Shifted
shifted_by_register shift rs rm regs =
    shifted_of
    (by_register shift (current_in rs regs % 2 ^ 8)
    (word_bits (operand_of 12 rm regs)) (flags_of (r15_in regs)).carry)

-- a byte, rotated right by twice the rotation
abbrev pub rotated_byte : ℕ → ℕ → List ℕ → Shifted
rotated_byte value rotation regs =
    shifted_of (by_register Ror (2 * rotation) (word_bits value) (flags_of (r15_in regs)).carry)
