-- R15: N Z C V I F in bits 31 to 26, a word address in bits 25 to 2, the mode in bits 1 and 0 (VL86C010 data
-- sheet, registers).
use Rattle.std.specs.Prelude.{Bool, ℕ, ◌+◌, ◌*◌, ◌/◌, ◌%◌, ◌^◌, ◌==◌, if◌then◌else◌}
use Rattle.bus_ticks.specs.Prices.{ahead_of}
use Rattle.arm2_decode.specs.declared.flags.Flags.{Flags}
use Rattle.arm2_decode.specs.Allowed.{bit_of}
use Rattle.arm2_decode.specs.Bits.{bit_of_word}
use Rattle.arm2_effect.specs.declared.modes.Mode.{Mode}
use Rattle.arm2_effect.specs.declared.modes.Mode.TheVariants.{User}
use Rattle.arm2_effect.specs.Modes.{mode_named, mode_number}

-- N Z C V I F, as a number with F lowest
abbrev pub psr_of : ℕ → ℕ
psr_of r = r / 2 ^ 26

abbrev pub address_of : ℕ → ℕ
address_of r = r / 4 % 2 ^ 24 * 4

abbrev pub mode_of : ℕ → Mode
mode_of r = mode_named (r % 4)

abbrev pub r15_of : ℕ → ℕ → Mode → ℕ
r15_of psr address mode = psr * 2 ^ 26 + address + mode_number mode

-- where a branch leads: so many words on from its address plus 8. The number is signed in 24 bits, which
-- makes no difference, as addresses wrap after 2^24 words
abbrev pub branch_target : ℕ → ℕ → ℕ
branch_target address offset = ahead_of address (8 + 4 * offset)

-- the condition flags
abbrev pub flags_of : ℕ → Flags
flags_of r =
    record {
      negative = bit_of_word r 31;
      zero = bit_of_word r 30;
      carry = bit_of_word r 29;
      overflow = bit_of_word r 28;
    }

-- F and I: FIQ and IRQ are not taken
abbrev pub is_fiq_masked : ℕ → Bool
is_fiq_masked r = bit_of_word r 26

abbrev pub is_irq_masked : ℕ → Bool
is_irq_masked r = bit_of_word r 27

-- the PSR with other condition flags: I and F stay
abbrev pub psr_with : Flags → ℕ → ℕ
psr_with f psr =
    bit_of f.negative * 32 + bit_of f.zero * 16 + bit_of f.carry * 8 + bit_of f.overflow * 4 + psr % 4

-- R15 some bytes on, with its PSR and mode
abbrev pub r15_ahead : ℕ → ℕ → ℕ
r15_ahead r by = r15_of (psr_of r) (ahead_of (address_of r) by) (mode_of r)

-- R15 with the address bits of a value alone
abbrev pub r15_jumped : ℕ → ℕ → ℕ
r15_jumped r value = r15_of (psr_of r) (address_of value) (mode_of r)

-- R15 with the PSR and the mode of a value, and an address: in User mode I, F and the mode stay
abbrev pub r15_restored : ℕ → ℕ → ℕ → ℕ
r15_restored r value address =
    if r % 4 == 0 then r15_of (value / 2 ^ 28 * 4 + psr_of r % 4) address User
    else r15_of (psr_of value) address (mode_of value)
