-- A step leaves the machine with its registers and its prices.
use Rattle.std.proofs.Common.{◌≡◌, ◌∙◌, ℕ, List, length, Option, Some, None, inl, inr, refl, sym, ap}
use Rattle.std.proofs.Math.ListN.{length-set}
use Rattle.bus_ticks.specs.declared.profile.Class.TheVariants.{Any}
use Rattle.arm2_effect.specs.declared.exceptions.Vector.{Vector}
use Rattle.arm2_effect.specs.declared.step_end.Kind.{Kind}
use Rattle.arm2_effect.specs.declared.step_end.Kind.TheVariants as ended
use Rattle.arm2_effect.specs.Effects.{is_stopped}
use Rattle.arm2_effect.specs.Exceptions.{taken}
use Rattle.arm2_effect.specs.Modes.{r15_in}
use Rattle.arm2_exec.specs.State.{State}
use Rattle.arm2_exec.specs.Step.{Obeys, ObeysFetched, Step, fetched, interrupt_due, state_after, with_lines}
use Rattle.arm2_exec.specs.declared.machine.Input.{Input}
use Rattle.arm2_exec.specs.declared.machine.Stepped.{Stepped}
use Rattle.arm2_exec.proofs.StepLemmas.{same_profile, stopped_same}
use Rattle.arm2_exec.proofs.TakenLemmas.{took}
use Rattle.arm2_transfer.specs.declared.bus.Bus.{Bus}
use Rattle.arm2_transfer.specs.Moved.{Moved}
use Rattle.control_flow.specs.Flow.{Flow}
use Rattle.flow_graph.proofs.StepLemmas.{plain_step, works_plain}
use Rattle.kept_runs.specs.Judging.{IsMachineFor}
use Rattle.kept_runs.specs.Reading.{instr_reading, unallocated_reading}
use Rattle.kept_runs.proofs.MovedLemmas.{word_moves}
use Rattle.kept_runs.proofs.StepJudged.{after_regs}

taken_long : (v : Vector) (regs : List ℕ) → length (taken v regs).regs ≡ length regs
unfolding taken
taken_long v regs = length-set _ 26 _ ∙ length-set regs _ _

module _ (regs : List ℕ) (bus : Bus) (port : ℕ) (m : Moved) (plain : m.kind ≡ ended.Plain) where
  obeys_long : (word : ℕ) → Obeys word port regs bus m → length m.regs ≡ length regs
  obeys_long word (inl (i, means, is)) = (word_moves Any regs bus word port (instr_reading i regs) m (inl (i, means, refl)) (inl (i, means, is))).registers plain
  obeys_long word (inr (u, none, is)) = (word_moves Any regs bus word port (unallocated_reading u regs) m (inr (u, none, refl)) (inr (u, none, is))).registers plain

  fetched_long : (word : Option ℕ) → ObeysFetched word port regs bus m → length m.regs ≡ length regs
  unfolding taken
  fetched_long None is = absurd (let kind = ap (λ (x : Moved). x.kind) is in cc)
  fetched_long (Some word) obeys = obeys_long word obeys

module _ (s : State) (i : Input) (stepped : Stepped) (next : State) (step : Step s i stepped next) where
  abbrev moved : Moved
  moved = step.moved

  after_long : length moved.regs ≡ length s.regs → length next.regs ≡ length s.regs
  unfolding state_after
  after_long long = ap (λ (x : State). length x.regs) step.after_is ∙ after_regs (is_stopped moved.kind) s s _ refl long

  by_kind : (kind : Kind) → stepped.kind ≡ kind → length next.regs ≡ length s.regs
  by_kind ended.Plain is =
      let bus = with_lines i.lines.0 s.bus in
      let plain = (plain_step s moved stepped step.stepped_is is).kind in
      after_long (fetched_long s.regs bus i.port moved plain (fetched bus.memc (r15_in s.regs)) (works_plain (interrupt_due bus (r15_in s.regs)) i.port s.regs bus moved step.works plain))
  by_kind (ended.Taken v) is = let done = took s i stepped next v step is in after_long (ap (λ (x : Moved). length x.regs) done.0 ∙ taken_long v s.regs)
  by_kind (ended.Stopped w) is = ap (λ (x : State). length x.regs) (stopped_same s i stepped next step (ap is_stopped is))

  pub fit_after : (flow : Flow) → IsMachineFor flow s → IsMachineFor flow next
  fit_after flow machine = record {
    registers = by_kind stepped.kind refl ∙ machine.registers;
    prices = same_profile s i stepped next step ∙ machine.prices;
  }
