-- What the word at the machine's address is to do, by the registers.
use Rattle.std.specs.Prelude.{◌≡◌, ◌⊎◌, ℕ, Bool, true, false, if◌then◌else◌, List, Option, Some, None}
use Rattle.image.specs.Image.{Words, word_of}
use Rattle.shifter.specs.Shifts.{multiply_cycles}
use Rattle.arm2_decode.specs.Names.{is_always, is_never}
use Rattle.arm2_decode.specs.Table.{IsUnallocated, Means}
use Rattle.arm2_decode.specs.declared.instr.Instr.{Instr}
use Rattle.arm2_decode.specs.declared.instr.Operation.{Operation}
use Rattle.arm2_decode.specs.declared.instr.Operation.TheVariants as operation
use Rattle.arm2_decode.specs.declared.instr.Unallocated.{Unallocated}
use Rattle.arm2_effect.specs.Modes.{r15_in}
use Rattle.arm2_effect.specs.Operands.{current_in}
use Rattle.arm2_exec.specs.State.{State}
use Rattle.arm2_exec.specs.Step.{address_in, fetched}
use Rattle.control_flow.specs.Kinds.{base_of}
use Rattle.flow_graph.specs.StepLaw.{holds_in}
use Rattle.kept_runs.specs.declared.reading.Reading.{Reading}
use Rattle.kept_runs.specs.declared.transfers.Transfer.{Transfer}
use Rattle.kept_runs.specs.Transfers.{words_of}

-- the machine fetches the image's word at its address
pub record FetchesWord (words : Words) (s : State) (word : ℕ) : Type 0 where
  pub word_is : word_of words (address_in s.regs) ≡ Some word
  pub fetches : fetched s.bus.memc (r15_in s.regs) ≡ Some word

abbrev pub HasNoWord : Words → State → Type 0
HasNoWord words s = (word : ℕ) → FetchesWord words s word → ⊥

-- an instruction transfers words where its condition holds
abbrev pub transfer_if : Bool → Operation → List ℕ → Option Transfer
transfer_if holds o regs = if holds then words_of o regs else None

-- a multiply takes cycles by its multiplier
abbrev pub multiplier_cycles : Operation → List ℕ → Option ℕ
multiplier_cycles (operation.Multiply x) regs = Some (multiply_cycles (current_in x.rs regs))
multiplier_cycles (operation.DataRegister x) regs = None
multiplier_cycles (operation.DataRegisterShift x) regs = None
multiplier_cycles (operation.DataImmediate x) regs = None
multiplier_cycles (operation.SingleImmediate x) regs = None
multiplier_cycles (operation.SingleRegister x) regs = None
multiplier_cycles (operation.Block x) regs = None
multiplier_cycles (operation.Branch x) regs = None
multiplier_cycles (operation.Swi x) regs = None
multiplier_cycles (operation.UndefinedTransfer x) regs = None
multiplier_cycles (operation.CoprocessorTransfer x) regs = None
multiplier_cycles (operation.Coprocessor x) regs = None

-- where its condition holds
abbrev pub cycles_if : Bool → Operation → List ℕ → Option ℕ
cycles_if holds o regs = if holds then multiplier_cycles o regs else None

abbrev pub instr_reading : Instr → List ℕ → Reading
instr_reading i regs =
    record {
      cond = i.cond;
      holds = holds_in regs i.cond;
      base = base_of i.operation;
      transfer = transfer_if (holds_in regs i.cond) i.operation regs;
      cycles = cycles_if (holds_in regs i.cond) i.operation regs;
    }

abbrev pub unallocated_reading : Unallocated → List ℕ → Reading
unallocated_reading u regs =
    record { cond = u.cond; holds = holds_in regs u.cond; base = None; transfer = None; cycles = None }

-- by the table of instruction words
abbrev pub IsReading : ℕ → List ℕ → Reading → Type 0
IsReading word regs r =
    ((i : Instr) × Means word i × (r ≡ instr_reading i regs))
    ⊎ ((u : Unallocated) × IsUnallocated word u × (r ≡ unallocated_reading u regs))

-- a word under AL is done, and one under NV is passed over
pub record IsByCondition (r : Reading) : Type 0 where
  pub always : is_always r.cond ≡ true → r.holds ≡ true
  pub never : is_never r.cond ≡ true → r.holds ≡ false
