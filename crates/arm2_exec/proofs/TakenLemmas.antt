-- A step that takes an exception has done nothing else.
use Rattle.std.proofs.Common.{◌≡◌, ◌≢◌, ◌∙◌, ℕ, ◌+◌, ◌*◌, ◌%◌, false, List, Option, refl, sym, ap, inl, inr, arith}
use Rattle.std.specs.Prelude.{slice_index}
use Rattle.std.proofs.lemmas.Bool.{false≢true, cases_Bool, cond-true, cond-false}
use Rattle.std.proofs.lemmas.List.{get_or-set_other}
use Rattle.bus_ticks.specs.Prices.{fetch_n, fetch_s}
use Rattle.bus_ticks.specs.Worst.{fiq_entry_price}
use Rattle.arm2_effect.specs.declared.exceptions.Vector.{Vector}
use Rattle.arm2_effect.specs.declared.exceptions.Vector.TheVariants as vector
use Rattle.arm2_effect.specs.declared.step_end.Kind.{Kind}
use Rattle.arm2_effect.specs.declared.step_end.Kind.TheVariants.{Taken}
use Rattle.arm2_effect.specs.Modes.{r15_in, reg_number, slot_of}
use Rattle.arm2_effect.specs.Effects.{is_stopped, stopped}
use Rattle.arm2_effect.specs.Exceptions.{entry_at, taken}
use Rattle.arm2_transfer.specs.declared.bus.Bus.{Bus}
use Rattle.arm2_transfer.specs.Moved.{Moved, on_bus}
use Rattle.arm2_transfer.proofs.Slots.{slot_of_r15}
use Rattle.arm2_transfer.proofs.MovedCases.{HasAll}
use Rattle.arm2_exec.proofs.MovedCases.{works_has}
use Rattle.arm2_exec.specs.declared.machine.Input.{Input}
use Rattle.arm2_exec.specs.declared.machine.Stepped.{Stepped}
use Rattle.arm2_exec.specs.Kept.{KeepsTheRest, interrupted_in}
use Rattle.arm2_exec.specs.State.{State}
use Rattle.arm2_exec.specs.Step.{Step, Works, address_in, answer_of, elapsed, interrupt_due, state_after, ticks_in, with_lines}

-- ## What is done where an exception is taken

module _ (regs : List ℕ) (bus : Bus) (v : Vector) where
  abbrev pub IsTaken : Moved → Type 0
  IsTaken m = m.kind ≡ Taken v → m ≡ on_bus bus (taken v regs)

  taken_kind : (w : Vector) → (taken w regs).kind ≡ Taken w
  unfolding taken
  taken_kind w = refl

  same_vector : (w : Vector) (k : Kind) → k ≡ Taken w → k ≡ Taken v → w ≡ v
  same_vector w k p q = cc

  all_taken : HasAll regs bus IsTaken
  unfolding stopped
  all_taken = record {
    plain = λ m is kind. absurd (cc (is, kind));
    takes = λ w kind. ap (λ (x : Vector). on_bus bus (taken x regs)) (same_vector w (taken w regs).kind (taken_kind w) kind);
    stops = λ w kind. absurd (cc kind);
  }

  works_takes : (interrupt : Option Vector) (port : ℕ) (m : Moved) → Works interrupt port regs bus m → IsTaken m
  works_takes interrupt port m works = works_has regs bus IsTaken all_taken interrupt port m works

-- ## What it keeps

taken_keeps : (v : Vector) (regs : List ℕ) (n : ℕ) → n ≢ slot_of (entry_at v).mode 14 → n ≢ slot_of (entry_at v).mode 15 → slice_index (taken v regs).regs n ≡ slice_index regs n
unfolding taken
taken_keeps v regs n other last = get_or-set_other _ 26 n _ 0 (λ same. last (same ∙ sym (slot_of_r15 (entry_at v).mode))) ∙ get_or-set_other regs (slot_of (entry_at v).mode 14) n _ 0 other

-- what a step did that took the exception, and that it did not stop
pub took : (s : State) (i : Input) (stepped : Stepped) (after : State) (v : Vector) (step : Step s i stepped after) → stepped.kind ≡ Taken v
    → (step.moved ≡ on_bus (with_lines i.lines.0 s.bus) (taken v s.regs)) × (is_stopped step.moved.kind ≡ false)
unfolding answer_of
took s i stepped after v step kind = elim (cases_Bool (is_stopped step.moved.kind)) [
  | inl stopped ↦
      let stepped_is = step.stepped_is ∙ cond-true (is_stopped step.moved.kind) _ _ stopped in
      let moved_kind : step.moved.kind ≡ Taken v = sym (ap (λ (t : Stepped). t.kind) stepped_is) ∙ kind in
      absurd (false≢true (sym (ap is_stopped moved_kind) ∙ stopped))
  | inr goes ↦
      let m = step.moved in
      let bus = with_lines i.lines.0 s.bus in
      let stepped_is = step.stepped_is ∙ cond-false (is_stopped m.kind) _ _ goes in
      (works_takes s.regs bus v (interrupt_due bus (r15_in s.regs)) i.port m step.works (sym (ap (λ (t : Stepped). t.kind) stepped_is) ∙ kind), goes)
]

pub keeps_the_rest : (s : State) (i : Input) (stepped : Stepped) (after : State) (v : Vector) → Step s i stepped after → stepped.kind ≡ Taken v → KeepsTheRest v s i stepped after
unfolding answer_of state_after
keeps_the_rest s i stepped after v step kind =
    let m = step.moved in
    let bus = with_lines i.lines.0 s.bus in
    let done = took s i stepped after v step kind in
    let stepped_is = step.stepped_is ∙ cond-false (is_stopped m.kind) _ _ done.1 in
    let after_is = step.after_is ∙ cond-false (is_stopped m.kind) _ _ done.1 in
    let devices : after.bus ≡ elapsed (stepped.ticks + s.profile.burst * i.bursts) bus =
    ap (λ (t : State). t.bus) after_is
    ∙ ap (λ (n : ℕ). elapsed (n + s.profile.burst * i.bursts) m.bus) (sym (ap (λ (t : Stepped). t.ticks) stepped_is))
    ∙ ap (λ (x : Moved). elapsed (stepped.ticks + s.profile.burst * i.bursts) x.bus) done.0 in
    record {
      memory = ap (λ (b : Bus). b.memc) devices;
      registers = λ r other last.
          ap (λ (t : State). slice_index t.regs (reg_number r)) after_is
          ∙ ap (λ (x : Moved). slice_index x.regs (reg_number r)) done.0
          ∙ taken_keeps v s.regs (reg_number r) other last;
      prices = ap (λ (t : State). t.profile) after_is;
      devices = devices;
    }

-- ## What taking FIQ costs

fiq_ticks : (s : State) (bus : Bus) → ticks_in s (on_bus bus (taken vector.Fiq s.regs)) ≡ fiq_entry_price s.profile (interrupted_in s)
unfolding taken
fiq_ticks s bus =
    let first = fetch_s s.profile ((address_in s.regs + 8) % 0x4000000) s.bus.memc.control.rom_times in
    let second = fetch_n s.profile 0x1C s.bus.memc.control.rom_times in
    let third = fetch_s s.profile 0x20 s.bus.memc.control.rom_times in
    let total : ticks_in s (on_bus bus (taken vector.Fiq s.regs)) ≡ 0 + first + second + third = refl in
    omega (arith, total)

pub fiq_costs : (s : State) (i : Input) (stepped : Stepped) (after : State) → Step s i stepped after → stepped.kind ≡ Taken vector.Fiq → stepped.ticks ≡ fiq_entry_price s.profile (interrupted_in s)
unfolding answer_of
fiq_costs s i stepped after step kind =
    let done = took s i stepped after vector.Fiq step kind in
    ap (λ (t : Stepped). t.ticks) (step.stepped_is ∙ cond-false (is_stopped step.moved.kind) _ _ done.1)
    ∙ ap (λ (m : Moved). ticks_in s m) done.0
    ∙ fiq_ticks s (with_lines i.lines.0 s.bus)
