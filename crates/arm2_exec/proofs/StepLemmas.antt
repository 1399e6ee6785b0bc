-- From what a step does to its whole outcome.
use Rattle.std.proofs.Common.{◌≡◌, ◌∙◌, ℕ, ◌+◌, ◌*◌, true, false, List, Option, Some, None, refl, sym, ap, inl, inr, subst}
use Rattle.std.specs.Prelude.{IfOk, IfErr, Result, Ok, Err}
use Rattle.std.proofs.lemmas.Bool.{false≢true, cases_Bool, cond-true, cond-false}
use Rattle.arm2_decode.specs.Table.{Means, IsUnallocated}
use Rattle.arm2_decode.specs.declared.instr.Instr.{Instr}
use Rattle.arm2_decode.specs.declared.instr.Unallocated.{Unallocated}
use Rattle.arm2_decode.proofs.Unique.{one_instr, never_both, one_unallocated}
use Rattle.ioc.specs.Interrupts as ioc
use Rattle.arm2_effect.specs.declared.step_end.Done.{Done}
use Rattle.arm2_effect.specs.declared.step_end.Kind.{Kind}
use Rattle.arm2_effect.specs.declared.step_end.Kind.TheVariants.{Plain, Taken, Stopped}
use Rattle.arm2_effect.specs.declared.step_end.Why.{Why}
use Rattle.arm2_effect.specs.declared.exceptions.Vector.{Vector}
use Rattle.arm2_effect.specs.declared.exceptions.Vector.TheVariants as vector
use Rattle.arm2_effect.specs.Effects.{is_stopped}
use Rattle.arm2_effect.specs.Exceptions.{taken}
use Rattle.arm2_effect.specs.Modes.{r15_in}
use Rattle.arm2_transfer.specs.declared.bus.Bus.{Bus}
use Rattle.arm2_transfer.specs.declared.processor.Processor.{Processor}
use Rattle.arm2_transfer.specs.Moved.{Moved, on_bus}
use Rattle.arm2_exec.specs.declared.machine.Input.{Input}
use Rattle.arm2_exec.specs.declared.machine.Stepped.{Stepped}
use Rattle.arm2_exec.specs.State.{State}
use Rattle.arm2_exec.specs.Step.{Obeys, ObeysFetched, Works, Step, HasOneOutcome, address_in, answer_of, elapsed, fetched, instruction_moved, interrupt_due, prices_in, state_after, unallocated_moved, with_lines}
use Rattle.arm2_exec.specs.Work.{Worked}
use Rattle.arm2_exec.proofs.MovedCases.{works_still}

pub stops : (k : Kind) (w : Why) → k ≡ Stopped w → is_stopped k ≡ true
stops k w is = ap is_stopped is

pub goes_on : (k : Kind) → ((w : Why) → k ≡ Stopped w → ⊥) → is_stopped k ≡ false
goes_on Plain not_stopped = refl
goes_on (Taken v) not_stopped = refl
goes_on (Stopped w) not_stopped = absurd (not_stopped w refl)

module _ (s : State) (i : Input) where
  -- ## The two ways in which a step ends

  -- IOC with its lines as they were
  abbrev unlined_ioc : ioc.Controller → ioc.Controller
  unlined_ioc c = record c { lines = s.bus.ioc.lines; a2_rose = s.bus.ioc.a2_rose }

  unlined : (now : Bus) → now ≡ with_lines i.lines.0 s.bus → record s { bus = record { memc = now.memc; ioc = unlined_ioc now.ioc; vidc = now.vidc } } ≡ s
  unlined now same = ap (λ (b : Bus). let t : State = record { regs = s.regs; bus = record { memc = b.memc; ioc = unlined_ioc b.ioc; vidc = b.vidc }; profile = s.profile } in t) same

  -- the processor as the step's work begins
  abbrev pub starting : Processor
  starting = record { registers = s.regs; bus = with_lines i.lines.0 s.bus; port = i.port; prices = prices_in s }

  abbrev pub DoesWork : Done → Processor → Type 0
  DoesWork done after = Worked (interrupt_due starting.bus (r15_in s.regs)) starting done after

  pub stopped_step : (done : Done) (after : Processor) → DoesWork done after → is_stopped done.kind ≡ true
      → Step s i (record { kind = done.kind; ticks = 0; from = address_in s.regs; to = address_in s.regs }) (record { regs = after.registers; bus = record { memc = after.bus.memc; ioc = record after.bus.ioc { lines = s.bus.ioc.lines; a2_rose = s.bus.ioc.a2_rose }; vidc = after.bus.vidc }; profile = after.prices.profile })
  unfolding answer_of state_after
  stopped_step done after w stopped =
      let kind : is_stopped w.moved.kind ≡ true = ap is_stopped (sym w.is.kind) ∙ stopped in
      let still = works_still s.regs starting.bus (interrupt_due starting.bus (r15_in s.regs)) i.port w.moved w.works kind in
      record {
        moved = w.moved;
        works = w.works;
        stepped_is = rw kind (ap (λ (k : Kind). let t : Stepped = record { kind = k; ticks = 0; from = address_in s.regs; to = address_in s.regs } in t) w.is.kind);
        after_is = rw (kind, w.is.state, still.1) (unlined w.moved.bus still.2);
      }

  pub going_step : (done : Done) (after : Processor) → DoesWork done after → is_stopped done.kind ≡ false
      → Step s i (record { kind = done.kind; ticks = done.ticks; from = address_in s.regs; to = address_in after.registers }) (record { regs = after.registers; bus = elapsed (done.ticks + after.prices.profile.burst * i.bursts) after.bus; profile = after.prices.profile })
  unfolding answer_of state_after
  going_step done after w goes =
      let kind : is_stopped w.moved.kind ≡ false = ap is_stopped (sym w.is.kind) ∙ goes in
      record {
        moved = w.moved;
        works = w.works;
        stepped_is = rw (kind, w.is.kind, w.is.ticks, w.is.state) refl;
        after_is = rw (kind, w.is.ticks, w.is.state) refl;
      }

  pub stopped_same : (stepped : Stepped) (after : State) → Step s i stepped after → is_stopped stepped.kind ≡ true → after ≡ s
  unfolding answer_of state_after
  stopped_same stepped after step stopped = elim (cases_Bool (is_stopped step.moved.kind)) [
    | inl stops ↦ step.after_is ∙ cond-true (is_stopped step.moved.kind) _ _ stops
    | inr goes ↦ absurd (false≢true (sym goes ∙ sym (ap (λ (t : Stepped). is_stopped t.kind) (step.stepped_is ∙ cond-false (is_stopped step.moved.kind) _ _ goes)) ∙ stopped))
  ]

  pub same_profile : (stepped : Stepped) (after : State) → Step s i stepped after → after.profile ≡ s.profile
  unfolding state_after
  same_profile stepped after step = elim (cases_Bool (is_stopped step.moved.kind)) [
    | inl stops ↦ ap (λ (t : State). t.profile) (step.after_is ∙ cond-true (is_stopped step.moved.kind) _ _ stops)
    | inr goes ↦ ap (λ (t : State). t.profile) (step.after_is ∙ cond-false (is_stopped step.moved.kind) _ _ goes)
  ]

-- ## One outcome

module _ (port : ℕ) (regs : List ℕ) (bus : Bus) where
  obeys_one : (word : ℕ) (m n : Moved) → Obeys word port regs bus m → Obeys word port regs bus n → m ≡ n
  obeys_one word m n (inl i) (inl j) = i.2 ∙ ap (λ (x : Instr). instruction_moved x port regs bus) (one_instr word i.0 j.0 i.1 j.1) ∙ sym j.2
  obeys_one word m n (inl i) (inr u) = absurd (never_both word i.0 u.0 i.1 u.1)
  obeys_one word m n (inr u) (inl i) = absurd (never_both word i.0 u.0 i.1 u.1)
  obeys_one word m n (inr u) (inr v) = u.2 ∙ ap (λ (x : Unallocated). unallocated_moved x regs bus) (one_unallocated word u.0 v.0 u.1 v.1) ∙ sym v.2

  fetched_one : (word : Option ℕ) (m n : Moved) → ObeysFetched word port regs bus m → ObeysFetched word port regs bus n → m ≡ n
  fetched_one None m n is other = is ∙ sym other
  fetched_one (Some word) m n is other = obeys_one word m n is other

  pub works_one : (interrupt : Option Vector) (m n : Moved) → Works interrupt port regs bus m → Works interrupt port regs bus n → m ≡ n
  works_one (Some v) m n is other = is ∙ sym other
  works_one None m n is other = fetched_one (fetched bus.memc (r15_in regs)) m n is other

  -- something is done with every word
  some_word : (word : ℕ) (decoded : Result Instr Unallocated) → IfOk decoded (Means word) → IfErr decoded (IsUnallocated word) → (m : Moved) × Obeys word port regs bus m
  some_word word (Ok i) means is = (instruction_moved i port regs bus, inl (i, means, refl))
  some_word word (Err u) means is = (unallocated_moved u regs bus, inr (u, is, refl))

  some_work : (interrupt : Option Vector) (word : Option ℕ) → fetched bus.memc (r15_in regs) ≡ word → (m : Moved) × ObeysFetched word port regs bus m → (m : Moved) × Works interrupt port regs bus m
  some_work (Some v) word is obeyed = (on_bus bus (taken v regs), refl)
  some_work None word is obeyed = (obeyed.0, subst (λ (x : Option ℕ). ObeysFetched x port regs bus obeyed.0) (sym is) obeyed.1)

module _ (s : State) (i : Input) where
  -- a step has no second outcome
  pub one_step : (stepped other : Stepped) (after last : State) → Step s i stepped after → Step s i other last → (other ≡ stepped) × (last ≡ after)
  one_step stepped other after last this step =
      let same = works_one i.port s.regs (with_lines i.lines.0 s.bus) (interrupt_due (with_lines i.lines.0 s.bus) (r15_in s.regs)) step.moved this.moved step.works this.works in
      (step.stepped_is ∙ ap (answer_of s) same ∙ sym this.stepped_is, step.after_is ∙ ap (state_after s i) same ∙ sym this.after_is)

  one_outcome : (m : Moved) → Works (interrupt_due (with_lines i.lines.0 s.bus) (r15_in s.regs)) i.port s.regs (with_lines i.lines.0 s.bus) m → HasOneOutcome s i
  one_outcome m works = record {
    stepped = answer_of s m;
    after = state_after s i m;
    is = record { moved = m; works = works; stepped_is = refl; after_is = refl };
    only = λ stepped after step. one_step (answer_of s m) stepped (state_after s i m) after (record { moved = m; works = works; stepped_is = refl; after_is = refl }) step;
  }

  outcome_of_fetched : (word : Option ℕ) → fetched s.bus.memc (r15_in s.regs) ≡ word → (m : Moved) × ObeysFetched word i.port s.regs (with_lines i.lines.0 s.bus) m → HasOneOutcome s i
  outcome_of_fetched word is obeyed =
      let done = some_work i.port s.regs (with_lines i.lines.0 s.bus) (interrupt_due (with_lines i.lines.0 s.bus) (r15_in s.regs)) word is obeyed in
      one_outcome done.0 done.1

  pub outcome_of_word : (word : ℕ) (decoded : Result Instr Unallocated) → fetched s.bus.memc (r15_in s.regs) ≡ Some word → IfOk decoded (Means word) → IfErr decoded (IsUnallocated word) → HasOneOutcome s i
  outcome_of_word word decoded is means unallocated = outcome_of_fetched (Some word) is (some_word i.port s.regs (with_lines i.lines.0 s.bus) word decoded means unallocated)

  pub outcome_of_none : fetched s.bus.memc (r15_in s.regs) ≡ None → HasOneOutcome s i
  outcome_of_none is = outcome_of_fetched None is (on_bus (with_lines i.lines.0 s.bus) (taken vector.PrefetchAbort s.regs), refl)
