-- What is known after loads and stores.
use Rattle.std.specs.Prelude.{◌≡◌, ℕ, Bool, false, List}
use Rattle.arm2_decode.specs.Transfers.{writes_base}
use Rattle.arm2_decode.specs.declared.instr.Operation.{Operation}
use Rattle.arm2_effect.specs.Modes.{r15_in}
use Rattle.arm2_effect.specs.ProgramCounter.{address_of}
use Rattle.arm2_transfer.specs.Moved.{Moved}
use Rattle.arm2_transfer.specs.Registers.{moved_by}
use Rattle.arm2_transfer.specs.declared.bus.Bus.{Bus}
use Rattle.arm2_transfer.specs.declared.single_fields.Single as transfer
use Rattle.operation_laws.specs.Keeps.{KeepsOthers, restores}
use Rattle.operation_laws.specs.Leaves.{LeavesSingle}
use Rattle.known_words.specs.Known.{IsKnown}
use Rattle.known_words.specs.Knowledge.{Holds}
use Rattle.known_words.specs.declared.knowledge.Knowledge.{Knowledge}
use Rattle.known_words.specs.declared.transfers.Single.{Single}
use Rattle.known_words.specs.declared.words.Known.{Known}

-- what is known of a base that is moved by an offset
abbrev pub Moves : (up : Bool) → (base offset result : Known) → Type 0
Moves up base offset result =
    (entry turns : List ℕ) (x y : ℕ) → IsKnown entry turns base x → IsKnown entry turns offset y
    → IsKnown entry turns result (moved_by up x y)

-- the fields of a single transfer but for its offset
abbrev pub fields_of : transfer.Single → Single
fields_of x =
    record {
      up = x.up;
      byte = x.byte;
      load = x.load;
      writes_base = writes_base x.before x.write_back;
      rn = x.rn;
      rd = x.rd;
    }

-- what is known before a single transfer at the address, and of its offset, makes what is known after it
abbrev pub AfterSingle : Operation → Single → (offset : Known) → (address : ℕ) → (before result : Knowledge)
    → Type 0
AfterSingle o fields offset address before result =
    (entry turns regs : List ℕ) (port : ℕ) (bus : Bus) (x : transfer.Single) (m : Moved) → fields ≡ fields_of x
    → KeepsOthers o regs m.regs → restores o ≡ false → LeavesSingle x port regs bus m
    → IsKnown entry turns offset x.offset → address_of (r15_in regs) ≡ address → Holds entry turns before regs
    → Holds entry turns result m.regs
