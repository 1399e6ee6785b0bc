-- What is known after an instruction, by what is known before it.
use Rattle.std.specs.Prelude.{◌≡◌, ℕ, if◌then◌else◌, List, length}
use Rattle.arm2_decode.specs.declared.instr.Operation.{Operation}
use Rattle.arm2_effect.specs.declared.step_end.Kind.TheVariants.{Plain}
use Rattle.arm2_effect.specs.Effects.{skipped}
use Rattle.arm2_effect.specs.Modes.{r15_in}
use Rattle.arm2_effect.specs.ProgramCounter.{address_of}
use Rattle.arm2_transfer.specs.declared.bus.Bus.{Bus}
use Rattle.arm2_transfer.specs.Operations.{operation_moved}
use Rattle.operation_laws.specs.Keeps.{changes}
use Rattle.known_words.specs.Knowledge.{Holds}
use Rattle.known_words.specs.declared.knowledge.Compared.{Compared}
use Rattle.known_words.specs.declared.knowledge.Compared.TheVariants.{Less, Nothing, Of}
use Rattle.known_words.specs.declared.knowledge.Knowledge.{Knowledge}

-- what was compared, where an instruction may change the register
abbrev pub unless_changed : Operation → Compared → Compared
unless_changed o Nothing = Nothing
unless_changed o (Of register) = if changes o register then Nothing else Of register
unless_changed o (Less register number) = if changes o register then Nothing else Less register number

-- Whenever the instruction at the address is carried out, with neither an exception nor a stop, from registers of
-- which the first is known, the second is known of those that it leaves.
abbrev pub After : Operation → (address : ℕ) → (before result : Knowledge) → Type 0
After o address before result =
    (entry turns regs : List ℕ) (port : ℕ) (bus : Bus) → length regs ≡ 27 → address_of (r15_in regs) ≡ address
    → (operation_moved o port regs bus).kind ≡ Plain → Holds entry turns before regs
    → Holds entry turns result (operation_moved o port regs bus).regs

-- an instruction whose condition fails leaves what is known
abbrev pub Passing : Type 0
Passing =
    (entry turns regs : List ℕ) (known : Knowledge) → length regs ≡ 27 → Holds entry turns known regs
    → Holds entry turns known (skipped regs).regs
