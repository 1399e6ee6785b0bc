-- What is known of the registers and the flags of a machine.
use Rattle.std.specs.Prelude.{◌≡◌, ℕ, ◌==◌, ◌<◌, ◌^◌, nat_le, false, if◌then◌else◌, List, slice_index_or}
use Rattle.arm2_decode.specs.Names.{is_pc, is_same, register_number}
use Rattle.arm2_decode.specs.declared.flags.Flags.{Flags}
use Rattle.arm2_decode.specs.declared.names.Register.{Register}
use Rattle.arm2_effect.specs.Modes.{r15_in}
use Rattle.arm2_effect.specs.Operands.{current_in, current_mode}
use Rattle.arm2_effect.specs.Outcomes.{difference_of, flags_after}
use Rattle.arm2_effect.specs.ProgramCounter.{flags_of}
use Rattle.known_words.specs.Known.{IsKnown}
use Rattle.known_words.specs.declared.knowledge.Compared.{Compared}
use Rattle.known_words.specs.declared.knowledge.Compared.TheVariants.{Less, Nothing, Of}
use Rattle.known_words.specs.declared.knowledge.Knowledge.{Knowledge}
use Rattle.known_words.specs.declared.words.Known.{Known}
use Rattle.known_words.specs.declared.words.Known.TheVariants.{Any}

abbrev pub known_of : Knowledge → Register → Known
known_of knowledge register = slice_index_or knowledge.registers (register_number register) Any

-- N and Z are those of a word
pub record AreSigns (flags : Flags) (word : ℕ) : Type 0 where
  pub negative : flags.negative ≡ nat_le (2 ^ 31) word
  pub zero : flags.zero ≡ (word == 0)

-- the flags are those of what was compared, by the registers now
abbrev pub AreFlagsOf : Compared → (now : List ℕ) → Type 0
AreFlagsOf Nothing now = Unit {0}
AreFlagsOf (Of register) now =
    (is_pc register ≡ false) × AreSigns (flags_of (r15_in now)) (current_in register now)
AreFlagsOf (Less register number) now =
    (is_pc register ≡ false)
    × (flags_of (r15_in now) ≡ flags_after (difference_of (current_in register now) number false))

-- what was compared, once another word is in a register
abbrev pub without : Register → Compared → Compared
without register Nothing = Nothing
without register (Of other) = if is_same register other then Nothing else Of other
without register (Less other number) = if is_same register other then Nothing else Less other number

-- each register of the mode but R15 has a word of 32 bits
abbrev pub AreWords : List ℕ → Type 0
AreWords regs = (r : Register) → is_pc r ≡ false → current_in r regs < 2 ^ 32

-- What is known holds of the registers now, by those at the entry and where the loops around have turned so often:
-- the mode is that of the entry, and each register of its bank has a word as it is known.
pub record Holds (entry turns : List ℕ) (knowledge : Knowledge) (now : List ℕ) : Type 0 where
  pub mode : current_mode now ≡ current_mode entry
  pub registers : (r : Register) → is_pc r ≡ false
      → IsKnown entry turns (known_of knowledge r) (current_in r now)
  pub flags : AreFlagsOf knowledge.compared now
