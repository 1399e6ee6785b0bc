-- A step of the machine (VL86C010 data sheet, instruction set and exceptions, but for the order of its
-- parts, a fetch among the devices, what stops the machine, and the ticks).
use Rattle.std.specs.Prelude.{◌≡◌, ◌⊎◌, ℕ, ◌+◌, ◌*◌, ◌==◌, ◌&&◌, not, false}
use Rattle.std.specs.Prelude.{if◌then◌else◌, Option, Some, None, Result, Ok, Err, List}
use Rattle.arm2_decode.specs.Conditions.{condition_holds}
use Rattle.arm2_decode.specs.Table.{Means, IsUnallocated}
use Rattle.arm2_decode.specs.declared.instr.Instr.{Instr}
use Rattle.arm2_decode.specs.declared.instr.Unallocated.{Unallocated}
use Rattle.memc.specs.Memory.{Memory, located, word_at}
use Rattle.memc.specs.declared.spots.Spot.{Spot}
use Rattle.memc.specs.declared.spots.Spot.TheVariants.{Ram, Rom, Io, Vidc, Control, Translator, Ignored}
use Rattle.memc.specs.declared.spots.Refused.{Refused}
use Rattle.ioc.specs.Interrupts as ioc
use Rattle.vidc.specs.Video as vidc
use Rattle.arm2_effect.specs.declared.exceptions.Vector.{Vector}
use Rattle.arm2_effect.specs.declared.exceptions.Vector.TheVariants as vector
use Rattle.arm2_effect.specs.declared.prices.Prices.{Prices}
use Rattle.arm2_effect.specs.declared.step_end.Why.TheVariants as why
use Rattle.arm2_effect.specs.Modes.{r15_in, is_user}
use Rattle.arm2_effect.specs.ProgramCounter.{address_of, flags_of, is_fiq_masked, is_irq_masked, mode_of}
use Rattle.arm2_effect.specs.Effects.{is_stopped, skipped, stopped, ticks_of}
use Rattle.arm2_effect.specs.Exceptions.{taken}
use Rattle.arm2_transfer.specs.declared.bus.Bus.{Bus}
use Rattle.arm2_transfer.specs.Moved.{Moved, on_bus}
use Rattle.arm2_transfer.specs.Operations.{operation_moved}
use Rattle.arm2_exec.specs.declared.machine.Input.{Input}
use Rattle.arm2_exec.specs.declared.machine.Stepped.{Stepped}
use Rattle.arm2_exec.specs.State.{State}

-- ## 1. The lines become those of the input

abbrev pub with_lines : ℕ → Bus → Bus
with_lines lines bus = record bus { ioc = ioc.with_lines lines bus.ioc }

-- ## 2. The interrupt that is due: FIQ where F is clear, or else IRQ where I is clear

abbrev pub interrupt_of : ioc.Controller → (r15 : ℕ) → Option Vector
interrupt_of c r15 =
    if ioc.fiq_of c && not (is_fiq_masked r15) then Some vector.Fiq
    else (if ioc.irq_of c && not (is_irq_masked r15) then Some vector.Irq else None)

abbrev pub interrupt_due : Bus → (r15 : ℕ) → Option Vector
interrupt_due bus r15 = interrupt_of bus.ioc r15

-- ## 3. The word at the address, by the mode's rights: none where it is refused, and none among the devices

abbrev pub fetched_at : Memory → Result Spot Refused → Option ℕ
fetched_at m (Ok (Ram place)) = Some (word_at m (Ram place))
fetched_at m (Ok (Rom address)) = Some (word_at m (Rom address))
fetched_at m (Ok (Io address)) = None
fetched_at m (Ok (Vidc address)) = None
fetched_at m (Ok (Control address)) = None
fetched_at m (Ok (Translator address)) = None
fetched_at m (Ok (Ignored address)) = None
fetched_at m (Err refused) = None

abbrev pub fetched : Memory → (r15 : ℕ) → Option ℕ
fetched m r15 = fetched_at m (located m (address_of r15) (is_user (mode_of r15)) false)

-- an interrupt fetches no word
abbrev pub word_unless : Option Vector → Option ℕ → Option ℕ
word_unless (Some interrupt) word = None
word_unless None word = word

-- ## 4 to 6. A failed condition skips the word; an unallocated one stops the machine; any other is done

abbrev pub instruction_moved : Instr → (port : ℕ) → List ℕ → Bus → Moved
instruction_moved i port regs bus =
    if condition_holds i.cond (flags_of (r15_in regs)) then operation_moved i.operation port regs bus
    else on_bus bus (skipped regs)

abbrev pub unallocated_moved : Unallocated → List ℕ → Bus → Moved
unallocated_moved u regs bus =
    if condition_holds u.cond (flags_of (r15_in regs)) then on_bus bus (stopped why.Unallocated regs)
    else on_bus bus (skipped regs)

-- what the word does, by the table of instruction words
abbrev pub Obeys : (word port : ℕ) → List ℕ → Bus → Moved → Type 0
Obeys word port regs bus m =
    ((i : Instr) × Means word i × (m ≡ instruction_moved i port regs bus))
    ⊎ ((u : Unallocated) × IsUnallocated word u × (m ≡ unallocated_moved u regs bus))

abbrev pub ObeysFetched : Option ℕ → (port : ℕ) → List ℕ → Bus → Moved → Type 0
ObeysFetched None port regs bus m = m ≡ on_bus bus (taken vector.PrefetchAbort regs)
ObeysFetched (Some word) port regs bus m = Obeys word port regs bus m

-- what a step does before time passes: the interrupt that is due, or the word
abbrev pub Works : Option Vector → (port : ℕ) → List ℕ → Bus → Moved → Type 0
Works (Some interrupt) port regs bus m = m ≡ on_bus bus (taken interrupt regs)
Works None port regs bus m = ObeysFetched (fetched bus.memc (r15_in regs)) port regs bus m

-- ## 7. Time passes: VIDC moves on, then IOC's timers, and a flyback that rose is latched

abbrev pub with_flybacks : (rises : ℕ) → ioc.Controller → ioc.Controller
with_flybacks rises c = if rises == 0 then c else ioc.with_flyback c

abbrev pub elapsed : (ticks : ℕ) → Bus → Bus
elapsed ticks bus = record {
  memc = bus.memc;
  ioc = with_flybacks (vidc.flybacks ticks bus.vidc) (ioc.advanced ticks bus.ioc);
  vidc = vidc.advanced ticks bus.vidc;
}

-- ## The whole step

-- the word that a step fetches: none where an interrupt is due, and none where the fetch is refused
abbrev pub traced_word : State → Input → Option ℕ
traced_word s i =
    word_unless (interrupt_due (with_lines i.lines.0 s.bus) (r15_in s.regs))
    (fetched s.bus.memc (r15_in s.regs))

-- the instruction's address
abbrev pub address_in : List ℕ → ℕ
address_in regs = address_of (r15_in regs)

-- the prices of a step's accesses are those by the ROM time fields before it
abbrev pub prices_in : State → Prices
prices_in s = record { profile = s.profile; rom = s.bus.memc.control.rom_times }

-- a step's ticks are the prices of its accesses
abbrev pub ticks_in : State → Moved → ℕ
ticks_in s m = ticks_of (prices_in s) m.accesses

-- the devices have the step's ticks, and those of its DMA bursts
abbrev pub time_in : State → Input → Moved → ℕ
time_in s i m = ticks_in s m + s.profile.burst * i.bursts

-- a stopped step takes no time and changes nothing, the lines neither
unfoldable pub answer_of : State → Moved → Stepped
answer_of s m =
    if is_stopped m.kind
    then record { kind = m.kind; ticks = 0; from = address_in s.regs; to = address_in s.regs }
    else record { kind = m.kind; ticks = ticks_in s m; from = address_in s.regs; to = address_in m.regs }

unfoldable pub state_after : State → Input → Moved → State
state_after s i m =
    if is_stopped m.kind then s
    else record { regs = m.regs; bus = elapsed (time_in s i m) m.bus; profile = s.profile }

-- what a step reports, and the state after it
pub record Step (s : State) (i : Input) (stepped : Stepped) (after : State) : Type 0 where
  pub moved : Moved
  pub works : Works (interrupt_due (with_lines i.lines.0 s.bus) (r15_in s.regs)) i.port s.regs
      (with_lines i.lines.0 s.bus) moved
  pub stepped_is : stepped ≡ answer_of s moved
  pub after_is : after ≡ state_after s i moved

-- a step has one outcome: there is one, and no other
pub record HasOneOutcome (s : State) (i : Input) : Type 0 where
  pub stepped : Stepped
  pub after : State
  pub is : Step s i stepped after
  pub only : (other_stepped : Stepped) (other : State) → Step s i other_stepped other
      → (other_stepped ≡ stepped) × (other ≡ after)
