-- A step that takes an interrupt: when it does, and what it costs.
use Rattle.std.proofs.Common.{◌≡◌, ◌∙◌, ℕ, ◌+◌, ◌%◌, ◌≤◌, ◌<◌, ◌&&◌, ◌||◌, not, Bool, true, false, cond}
use Rattle.std.proofs.Common.{Option, Some, None, refl, ap, subst, inl, inr, arith, eqb, max}
use Rattle.std.proofs.lemmas.Bool.{cases_lt, cond-false}
use Rattle.bus_ticks.specs.declared.profile.Profile.{Profile}
use Rattle.bus_ticks.specs.declared.profile.RomTimes.{RomTimes}
use Rattle.bus_ticks.specs.declared.profile.Class.TheVariants.{Ram, Rom, Io, Any}
use Rattle.bus_ticks.specs.Prices.{fetch_n, fetch_s}
use Rattle.bus_ticks.specs.Worst.{AtTimes, IsGreatest, IsTargetOf, worst_rom}
use Rattle.bus_ticks.proofs.EntryLemmas.{fiq_entry_greatest}
use Rattle.bus_ticks.proofs.LeaveLemmas.{class_cases, s_at, s_ram_le}
use Rattle.bus_ticks.proofs.WorstLemmas.{dearest_times, rom_le}
use Rattle.ioc.specs.Interrupts as ioc
use Rattle.arm2_effect.specs.declared.exceptions.Vector.{Vector}
use Rattle.arm2_effect.specs.declared.exceptions.Vector.TheVariants as vector
use Rattle.arm2_effect.specs.declared.step_end.Kind.TheVariants.{Taken}
use Rattle.arm2_effect.specs.Effects.{is_stopped}
use Rattle.arm2_effect.specs.Exceptions.{taken}
use Rattle.arm2_effect.specs.Modes.{r15_in}
use Rattle.arm2_effect.specs.ProgramCounter.{is_fiq_masked, is_irq_masked}
use Rattle.arm2_transfer.specs.declared.bus.Bus.{Bus}
use Rattle.arm2_transfer.specs.Moved.{Moved, on_bus}
use Rattle.arm2_exec.specs.Kept.{interrupted_in}
use Rattle.arm2_exec.specs.State.{State}
use Rattle.arm2_exec.specs.Step.{Step, Works, address_in, answer_of, interrupt_due, interrupt_of, ticks_in}
use Rattle.arm2_exec.specs.Step.{with_lines}
use Rattle.arm2_exec.specs.declared.machine.Input.{Input}
use Rattle.arm2_exec.specs.declared.machine.Stepped.{Stepped}
use Rattle.arm2_exec.proofs.TakenLemmas.{fiq_costs, took}
use Rattle.responses.specs.declared.interrupts.Interrupt.{Interrupt}
use Rattle.responses.specs.declared.interrupts.Interrupt.TheVariants.{Irq, Fiq}
use Rattle.responses.specs.Entry.{IrqCostsItsEntry, UnmaskedIsTaken, entry_price, entry_ticks, irq_entry}
use Rattle.responses.specs.Entry.{irq_entry_price, is_active, is_held_back, vector_of}

-- ## When it is taken

fiq_due : (asks masks : Bool) (else_ : Option Vector) → asks ≡ true → masks ≡ false
    → cond (asks && not masks) (Some vector.Fiq) else_ ≡ Some vector.Fiq
fiq_due true false else_ asks masks = refl
fiq_due true true else_ asks masks = absurd (cc)
fiq_due false false else_ asks masks = absurd (cc)
fiq_due false true else_ asks masks = absurd (cc)

irq_due : (first asks masks : Bool) → asks ≡ true → (masks || first) ≡ false
    → cond first (Some vector.Fiq) (cond (asks && not masks) (Some vector.Irq) None) ≡ Some vector.Irq
irq_due false true false asks masks = refl
irq_due first false masks asks held = absurd (cc)
irq_due true true false asks held = absurd (cc)
irq_due first true true asks held = absurd (cc)

pub is_due : (interrupt : Interrupt) (c : ioc.Controller) (r15 : ℕ) → is_active interrupt c ≡ true
    → is_held_back interrupt c r15 ≡ false → interrupt_of c r15 ≡ Some (vector_of interrupt)
is_due Fiq c r15 asks free = fiq_due (ioc.fiq_of c) (is_fiq_masked r15) _ asks free
is_due Irq c r15 asks free = irq_due (ioc.fiq_of c && not (is_fiq_masked r15)) (ioc.irq_of c)
    (is_irq_masked r15) asks free

pub takes : (v : Vector) (s : State) (i : Input) (stepped : Stepped) (after : State)
    → interrupt_due (with_lines i.lines.0 s.bus) (r15_in s.regs) ≡ Some v → Step s i stepped after
    → stepped.kind ≡ Taken v
unfolding answer_of taken
takes v s i stepped after due step =
    let bus : Bus = with_lines i.lines.0 s.bus in
    let m : Moved = step.moved in
    let done : m ≡ on_bus bus (taken v s.regs) =
    subst (λ (d : Option Vector). Works d i.port s.regs bus m) due step.works in
    let kind : m.kind ≡ Taken v = ap (λ (x : Moved). x.kind) done in
    let goes : is_stopped m.kind ≡ false = ap is_stopped kind in
    ap (λ (t : Stepped). t.kind) (step.stepped_is ∙ cond-false (is_stopped m.kind) _ _ goes) ∙ kind

pub unmasked : UnmaskedIsTaken
unmasked interrupt s i stepped after asks free step =
    takes (vector_of interrupt) s i stepped after
    (is_due interrupt (with_lines i.lines.0 s.bus).ioc (r15_in s.regs) asks free) step

-- ## What it costs

irq_ticks : (s : State) (bus : Bus)
    → ticks_in s (on_bus bus (taken vector.Irq s.regs)) ≡ irq_entry_price s.profile (interrupted_in s)
unfolding taken
irq_ticks s bus =
    let first = fetch_s s.profile ((address_in s.regs + 8) % 0x4000000) s.bus.memc.control.rom_times in
    let second = fetch_n s.profile 0x18 s.bus.memc.control.rom_times in
    let third = fetch_s s.profile 0x1C s.bus.memc.control.rom_times in
    let total : ticks_in s (on_bus bus (taken vector.Irq s.regs)) ≡ 0 + first + second + third = refl in
    omega (arith, total)

pub irq_costs : IrqCostsItsEntry
unfolding answer_of
irq_costs s i stepped after step kind =
    let done = took s i stepped after vector.Irq step kind in
    ap (λ (t : Stepped). t.ticks) (step.stepped_is ∙ cond-false (is_stopped step.moved.kind) _ _ done.1)
    ∙ ap (λ (m : Moved). ticks_in s m) done.0
    ∙ irq_ticks s (with_lines i.lines.0 s.bus)

-- the greatest price of a fetch that follows the one before it
abbrev pub dearest : Profile → ℕ
dearest p = max p.quad (max (worst_rom p) p.unfitted)

pub following_le : (p : Profile) (rom : RomTimes) (x : ℕ) → fetch_s p x rom ≤ dearest p
following_le p rom x =
    elim (class_cases x) [
      | inl r ↦ omega (arith, s_at p rom x Ram r.0, s_ram_le p (eqb (x % 16) 0))
      | inr (inl r) ↦ omega (arith, s_at p rom x Io r.0)
      | inr (inr r) ↦ omega (arith, s_at p rom x Rom r.0, rom_le p rom x)
    ]

-- some interrupted address has this price
abbrev Reaches : Profile → ℕ → Type 0
Reaches p top = (t : AtTimes) × IsTargetOf Any t × (irq_entry_price p t ≡ top)

at : (p : Profile) (t : AtTimes) (top : ℕ) → t.address < 0x4000000 → irq_entry_price p t ≡ top → Reaches p top
at p t top below e = (t, record { below = below; is_of = tt }, e)

reached : (p : Profile) → Reaches p (irq_entry p)
reached p =
    let best = dearest_times p in
    elim (cases_lt p.quad (max (worst_rom p) p.unfitted)) [
      | inl dear ↦ elim (cases_lt (worst_rom p) p.unfitted) [
        | inl h ↦ at p (record { address = 0x2FFFFF8; rom = best.0 }) _ (omega arith) (omega arith)
        | inr h ↦
            at p (record { address = 0x33FFFF8; rom = best.0 }) _ (omega arith)
            (omega (arith, best.1 0x3400000))
      ]
      | inr cheap ↦ at p (record { address = 8; rom = best.0 }) _ (omega arith) (omega arith)
    ]

pub irq_entry_greatest : (p : Profile) (top : ℕ) → top ≡ irq_entry p
    → IsGreatest (IsTargetOf Any) (irq_entry_price p) top
irq_entry_greatest p top e =
    rw e (record {
      none_above = λ t h. omega (arith, following_le p t.rom ((t.address + 8) % 0x4000000));
      reached = reached p;
    })

-- ## Either interrupt

pub entry_greatest : (p : Profile) (interrupt : Interrupt)
    → IsGreatest (IsTargetOf Any) (entry_price p interrupt) (entry_ticks p interrupt)
entry_greatest p Irq = irq_entry_greatest p (irq_entry p) refl
entry_greatest p Fiq = fiq_entry_greatest p (entry_ticks p Fiq) refl

costs : (interrupt : Interrupt) (s : State) (i : Input) (stepped : Stepped) (after : State)
    → Step s i stepped after → stepped.kind ≡ Taken (vector_of interrupt)
    → stepped.ticks ≡ entry_price s.profile interrupt (interrupted_in s)
costs Irq s i stepped after step kind = irq_costs s i stepped after step kind
costs Fiq s i stepped after step kind = fiq_costs s i stepped after step kind

in_memory : (s : State) → address_in s.regs < 0x4000000
in_memory s = omega arith

pub takes_within : (interrupt : Interrupt) (s : State) (i : Input) (stepped : Stepped) (after : State)
    → Step s i stepped after → stepped.kind ≡ Taken (vector_of interrupt)
    → stepped.ticks ≤ entry_ticks s.profile interrupt
takes_within interrupt s i stepped after step kind =
    let ticks : stepped.ticks ≡ entry_price s.profile interrupt (interrupted_in s) =
    costs interrupt s i stepped after step kind in
    let most : entry_price s.profile interrupt (interrupted_in s) ≤ entry_ticks s.profile interrupt =
    (entry_greatest s.profile interrupt).none_above (interrupted_in s)
    (record { below = in_memory s; is_of = tt }) in
    omega (arith, ticks, most)
