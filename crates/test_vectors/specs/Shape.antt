-- What a step does on the bus, as the code has it. It is here since clauses of private functions cite it.
use Rattle.std.specs.Prelude.{◌≡◌, ℕ, Bool, true, false, not, ◌&&◌, if◌then◌else◌, List, [], ◌∷◌, ◌++◌}
use Rattle.std.specs.Prelude.{Option, Some, None}
use Rattle.arm2_decode.specs.Conditions.{condition_holds}
use Rattle.arm2_decode.specs.Names.{is_compare, is_pc, register_number}
use Rattle.arm2_decode.specs.Transfers.{is_listed}
use Rattle.arm2_decode.specs.declared.instr.Instr.{Instr}
use Rattle.arm2_decode.specs.declared.instr.Operation.{Operation}
use Rattle.arm2_decode.specs.declared.instr.Operation.TheVariants as operation
use Rattle.arm2_decode.specs.declared.names.Opcode.{Opcode}
use Rattle.arm2_decode.specs.declared.names.Register.{Register}
use Rattle.arm2_decode.specs.declared.names.Register.TheVariants.{R15}
use Rattle.shifter.specs.Shifts.{multiply_cycles}
use Rattle.bus_ticks.specs.Prices.{ahead_of}
use Rattle.arm2_effect.specs.Effects.{Access, FetchN, Internal, refill, straight}
use Rattle.arm2_effect.specs.Modes.{r15_in}
use Rattle.arm2_effect.specs.Operands.{current_in}
use Rattle.arm2_effect.specs.ProgramCounter.{flags_of}
use Rattle.arm2_effect.specs.declared.step_end.Kind.{Kind}
use Rattle.arm2_effect.specs.declared.step_end.Kind.TheVariants as kind
use Rattle.arm2_transfer.specs.Moved.{words_at}
use Rattle.arm2_exec.specs.State.{State}
use Rattle.arm2_exec.specs.Step.{Step, address_in}
use Rattle.arm2_exec.specs.declared.machine.Input.{Input}
use Rattle.arm2_exec.specs.declared.machine.Stepped.{Stepped}
use Rattle.json_trace.specs.Planned.{planned_by}
use Rattle.json_trace.specs.declared.moved_words.Transfers.{Transfers}
use Rattle.test_vectors.specs.declared.bus_use.BusUse.{BusUse}
use Rattle.test_vectors.specs.declared.bus_use.BusUse.TheVariants.{Nothing, Fetches, Loads, Stores}

-- internal cycles, if there are any
abbrev pub internal : Option ℕ → List Access
internal None = []
internal (Some cycles) = Internal cycles ∷ []

-- the accesses of a step at a, after which t is next
abbrev pub shape : BusUse → (a t : ℕ) → List Access
shape Nothing a t = []
shape (Fetches delay jumps) a t = internal delay ++ (straight a ++ (if jumps then refill t else []))
shape (Loads words jumps) a t =
    straight a ++ words_at words.store words.address words.words ++ Internal 1 ∷ (if jumps then refill t else [])
shape (Stores words) a t = FetchN (ahead_of a 8) ∷ words_at words.store words.address words.words

abbrev pub is_store : BusUse → Bool
is_store Nothing = false
is_store (Fetches delay jumps) = false
is_store (Loads words jumps) = false
is_store (Stores words) = true

-- by how the step ends: an exception fetches ahead and jumps
abbrev pub settled : Kind → BusUse → BusUse
settled kind.Plain planned = planned
settled (kind.Taken vector) planned = Fetches None true
settled (kind.Stopped why) planned = Nothing

abbrev pub straight_on : BusUse
straight_on = Fetches None false

-- data processing jumps where it writes R15
abbrev pub jumping : Option ℕ → Opcode → Register → BusUse
jumping delay opcode rd = Fetches delay (not (is_compare opcode) && is_pc rd)

-- a load or a store, if its words are in space
abbrev pub moving : Option Transfers → (jumps : Bool) → BusUse
moving None jumps = straight_on
moving (Some words) jumps = if words.store then Stores words else Loads words jumps

-- what an operation does that is carried out; those that are not named here take an exception
abbrev pub use_by : Operation → List ℕ → BusUse
use_by (operation.Multiply x) regs = Fetches (Some (multiply_cycles (current_in x.rs regs))) false
use_by (operation.DataRegister x) regs = jumping None x.opcode x.rd
use_by (operation.DataRegisterShift x) regs = jumping (Some 1) x.opcode x.rd
use_by (operation.DataImmediate x) regs = jumping None x.opcode x.rd
use_by (operation.SingleImmediate x) regs =
    moving (planned_by (operation.SingleImmediate x) regs) (is_pc x.rd)
use_by (operation.SingleRegister x) regs =
    moving (planned_by (operation.SingleRegister x) regs) (is_pc x.rd)
use_by (operation.Block x) regs = moving (planned_by (operation.Block x) regs) (is_listed x.list R15)
use_by (operation.Branch x) regs = Fetches None true
use_by _ regs = straight_on

abbrev pub use_if : Instr → List ℕ → BusUse
use_if i regs = if condition_holds i.cond (flags_of (r15_in regs)) then use_by i.operation regs else straight_on

-- the accesses of a step are those, and one that stores nothing leaves memory
pub record IsUseOf (planned : BusUse) (s : State) (i : Input) (stepped : Stepped) (after : State)
    (step : Step s i stepped after) : Type 0 where
  pub accesses : shape (settled stepped.kind planned) (address_in s.regs) (address_in after.regs)
      ≡ step.moved.accesses
  pub kept : is_store (settled stepped.kind planned) ≡ false → after.bus.memc ≡ s.bus.memc
