-- Taking an interrupt: when a step does, and what it costs (VL86C010 data sheet, exceptions, but for the
-- ticks).
use Rattle.std.specs.Prelude.{◌≡◌, ℕ, ◌+◌, Bool, true, false, not, ◌&&◌, ◌||◌, max}
use Rattle.bus_ticks.specs.declared.profile.Profile.{Profile}
use Rattle.bus_ticks.specs.Prices.{ahead_of, fetch_n, fetch_s}
use Rattle.bus_ticks.specs.Worst.{AtTimes, fiq_entry, fiq_entry_price, worst_rom}
use Rattle.ioc.specs.Interrupts as ioc
use Rattle.arm2_effect.specs.declared.exceptions.Vector.{Vector}
use Rattle.arm2_effect.specs.declared.exceptions.Vector.TheVariants as vector
use Rattle.arm2_effect.specs.declared.step_end.Kind.TheVariants.{Taken}
use Rattle.arm2_effect.specs.Modes.{r15_in}
use Rattle.arm2_effect.specs.ProgramCounter.{is_fiq_masked, is_irq_masked}
use Rattle.arm2_exec.specs.Kept.{interrupted_in}
use Rattle.arm2_exec.specs.State.{State}
use Rattle.arm2_exec.specs.Step.{Step, with_lines}
use Rattle.arm2_exec.specs.declared.machine.Input.{Input}
use Rattle.arm2_exec.specs.declared.machine.Stepped.{Stepped}
use Rattle.responses.specs.declared.interrupts.Interrupt.{Interrupt}
use Rattle.responses.specs.declared.interrupts.Interrupt.TheVariants.{Irq, Fiq}

-- ## When it is taken

abbrev pub vector_of : Interrupt → Vector
vector_of Irq = vector.Irq
vector_of Fiq = vector.Fiq

-- IOC asks for the interrupt: some line or latched request is active, and IOC does not mask it
abbrev pub is_active : Interrupt → ioc.Controller → Bool
is_active Irq c = ioc.irq_of c
is_active Fiq c = ioc.fiq_of c

-- the processor holds the interrupt back: FIQ while F is set, and IRQ while I is set or FIQ goes first
abbrev pub is_held_back : Interrupt → ioc.Controller → (r15 : ℕ) → Bool
is_held_back Irq c r15 = is_irq_masked r15 || (ioc.fiq_of c && not (is_fiq_masked r15))
is_held_back Fiq c r15 = is_fiq_masked r15

-- both as a step begins, with the lines of its input
abbrev pub is_active_at : Interrupt → State → Input → Bool
is_active_at interrupt s i = is_active interrupt (with_lines i.lines.0 s.bus).ioc

abbrev pub is_held_back_at : Interrupt → State → Input → Bool
is_held_back_at interrupt s i = is_held_back interrupt (with_lines i.lines.0 s.bus).ioc (r15_in s.regs)

-- The wait ends: where IOC asks for the interrupt and the processor does not hold it back, the step takes
-- it.
abbrev pub UnmaskedIsTaken : Type 0
UnmaskedIsTaken =
    (interrupt : Interrupt) (s : State) (i : Input) (stepped : Stepped) (after : State)
    → is_active_at interrupt s i ≡ true → is_held_back_at interrupt s i ≡ false → Step s i stepped after
    → stepped.kind ≡ Taken (vector_of interrupt)

-- ## What it costs

-- taking IRQ before the instruction at an address: the fetch 8 bytes on, and the two at IRQ's vector, 18
abbrev pub irq_entry_price : Profile → AtTimes → ℕ
irq_entry_price p t =
    fetch_s p (ahead_of t.address 8) t.rom + (fetch_n p 0x18 t.rom + fetch_s p 0x1C t.rom)

-- the greatest price of taking IRQ: the first fetch may be of any class, and the vector is in Ram
abbrev pub irq_entry : Profile → ℕ
irq_entry p = max p.quad (max (worst_rom p) p.unfitted) + (p.n + p.s)

-- a step that takes IRQ costs this at the address where it is taken
abbrev pub IrqCostsItsEntry : Type 0
IrqCostsItsEntry =
    (s : State) (i : Input) (stepped : Stepped) (after : State)
    → Step s i stepped after → stepped.kind ≡ Taken vector.Irq
    → stepped.ticks ≡ irq_entry_price s.profile (interrupted_in s)

-- of either interrupt
abbrev pub entry_price : Profile → Interrupt → AtTimes → ℕ
entry_price p Irq t = irq_entry_price p t
entry_price p Fiq t = fiq_entry_price p t

abbrev pub entry_ticks : Profile → Interrupt → ℕ
entry_ticks p Irq = irq_entry p
entry_ticks p Fiq = fiq_entry p
