-- A word that enters one register, and what a compare says of one.
use Rattle.std.specs.Prelude.{◌≡◌, ℕ, Bool, true, false, List}
use Rattle.shifter.specs.declared.shifts.Shifted.{Shifted}
use Rattle.arm2_decode.specs.Names.{is_pc, is_same}
use Rattle.arm2_decode.specs.declared.flags.Flags.{Flags}
use Rattle.arm2_decode.specs.declared.names.Opcode.{Opcode}
use Rattle.arm2_decode.specs.declared.names.Register.{Register}
use Rattle.arm2_effect.specs.Modes.{r15_in}
use Rattle.arm2_effect.specs.Operands.{current_in, current_mode}
use Rattle.arm2_effect.specs.Outcomes.{difference_of, flags_after, outcome_of}
use Rattle.arm2_effect.specs.ProgramCounter.{address_of, flags_of}
use Rattle.operation_laws.specs.Leaves.{LeavesData}
use Rattle.known_words.specs.Known.{IsKnown}
use Rattle.known_words.specs.Knowledge.{AreSigns, Holds}
use Rattle.known_words.specs.declared.data.Data.{Data}
use Rattle.known_words.specs.declared.knowledge.Compared.{Compared}
use Rattle.known_words.specs.declared.knowledge.Compared.TheVariants.{Less, Nothing, Of}
use Rattle.known_words.specs.declared.knowledge.Knowledge.{Knowledge}
use Rattle.known_words.specs.declared.words.Known.{Known}

-- the word enters the register, which is not R15, and the mode and all other registers of its bank stay
pub record Enters (register : Register) (word : ℕ) (before after : List ℕ) : Type 0 where
  pub mode : current_mode after ≡ current_mode before
  pub written : current_in register after ≡ word
  pub others : (r : Register) → is_pc r ≡ false → is_same register r ≡ false
      → current_in r after ≡ current_in r before

-- N and Z are set by the word, or all flags stay
abbrev pub SetsSigns : (sets_flags : Bool) → (word : ℕ) → (before after : List ℕ) → Type 0
SetsSigns true word before after = AreSigns (flags_of (r15_in after)) word
SetsSigns false word before after = flags_of (r15_in after) ≡ flags_of (r15_in before)

-- the flags are what is said of them, where the register's word was compared
abbrev pub FlagsBy : Compared → Register → (word : ℕ) → Flags → Type 0
FlagsBy Nothing register word flags = Unit {0}
FlagsBy (Of other) register word flags = (other ≡ register) × (is_pc register ≡ false) × AreSigns flags word
FlagsBy (Less other number) register word flags =
    (other ≡ register) × (is_pc register ≡ false) × (flags ≡ flags_after (difference_of word number false))

-- what is known of the flags after a compare of a register with an operand
abbrev pub Compares : Opcode → Register → (operand : Known) → Compared → Type 0
Compares opcode register operand compared =
    (entry turns : List ℕ) (x y : ℕ) (carry : Bool) (flags : Flags) → IsKnown entry turns operand y
    → FlagsBy compared register x (flags_after (outcome_of opcode x (record { value = y; carry = carry }) flags))

-- what is known before data processing at the address makes what is known after it
abbrev pub AfterData : Data → (operand : Known) → (address : ℕ) → (before result : Knowledge) → Type 0
AfterData fields operand address before result =
    (entry turns regs after : List ℕ) (shifted : Shifted) → address_of (r15_in regs) ≡ address
    → IsKnown entry turns operand shifted.value
    → LeavesData fields.opcode fields.sets_flags fields.rn fields.rd fields.bytes shifted regs after
    → Holds entry turns before regs → Holds entry turns result after
