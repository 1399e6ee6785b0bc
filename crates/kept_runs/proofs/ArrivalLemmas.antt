-- Runs that come to an address, step by step.
use Rattle.std.proofs.Common.{◌≡◌, ◌≢◌, ◌∙◌, ℕ, zero, suc, ◌+◌, ◌<◌, ◌≤◌, List, [], ◌∷◌, length, take, drop, get_or, Option, Some, None, true, false, refl, sym, ap, subst, arith, add-one}
use Rattle.std.specs.Prelude.{is_some}
use Rattle.std.proofs.Math.Seq.{drop-cons}
use Rattle.std.proofs.lemmas.List.{drop_all}
use Rattle.arm2_exec.specs.Run.{Ends, Runs, at_rest, counted, why_stopped}
use Rattle.arm2_exec.specs.State.{State}
use Rattle.arm2_exec.specs.Step.{Step, address_in}
use Rattle.arm2_exec.specs.declared.machine.Input.{Input}
use Rattle.arm2_exec.specs.declared.machine.Ran.{Ran}
use Rattle.arm2_exec.specs.declared.machine.Stepped.{Stepped}
use Rattle.arm2_effect.specs.declared.step_end.Why.{Why}
use Rattle.arm2_exec.proofs.StepLemmas.{one_step}
use Rattle.flow_graph.proofs.StepLemmas.{goes_on}
use Rattle.kept_runs.specs.Arriving.{ArrivesAfter, IsElsewhereAfter, NeverArrives}

-- whether a step stops
pub why_some : (o : Option Why) → is_some o ≡ true → (w : Why) × (o ≡ Some w)
why_some (Some w) is = (w, refl)
why_some None is = absurd (cc)

pub why_none : (o : Option Why) → is_some o ≡ false → o ≡ None
why_none (Some w) is = absurd (cc)
why_none None is = refl

module _ (address : ℕ) where
  -- ## Where the machine is

  -- no step is made
  here_elsewhere : (s : State) (inputs : List Input) → address_in s.regs ≢ address → IsElsewhereAfter address s inputs 0
  here_elsewhere s inputs other ran now runs there = other (ap (λ (x : State). address_in x.regs) (sym runs.1) ∙ there)

  pub arrived : (s : State) (inputs : List Input) → address_in s.regs ≡ address → ArrivesAfter address s inputs 0 s
  arrived s inputs there = record {
    few = omega arith;
    ran = at_rest None;
    runs = (refl, refl);
    steps_are = refl;
    there = there;
    first = λ n lt. absurd (omega (arith, lt));
  }

  pub ends_elsewhere : (s : State) → address_in s.regs ≢ address → NeverArrives address s []
  ends_elsewhere s other zero ran now runs there = here_elsewhere s [] other ran now runs there
  ends_elsewhere s other (suc n) ran now runs there = other (ap (λ (x : State). address_in x.regs) (sym runs.1) ∙ there)

  -- ## A step before

  module _ (s : State) (i : Input) (rest : List Input) (stepped : Stepped) (next : State) (step : Step s i stepped next) (other : address_in s.regs ≢ address) where
    module _ (plain : why_stopped stepped.kind ≡ None) where
      step_elsewhere : (n : ℕ) → IsElsewhereAfter address next rest n → IsElsewhereAfter address s (i ∷ rest) (suc n)
      step_elsewhere n away ran now runs there = let on = goes_on s i (take n rest) ran now stepped next step plain runs in away on.0 now on.1 there

      pub never_before : NeverArrives address next rest → NeverArrives address s (i ∷ rest)
      never_before never zero = here_elsewhere s (i ∷ rest) other
      never_before never (suc n) = step_elsewhere n (never n)

      first_before : (steps : ℕ) → ((n : ℕ) → n < steps → IsElsewhereAfter address next rest n) → (n : ℕ) → n < suc steps → IsElsewhereAfter address s (i ∷ rest) n
      first_before steps first zero lt = here_elsewhere s (i ∷ rest) other
      first_before steps first (suc n) lt = step_elsewhere n (first n (omega (arith, lt)))

      pub arrives_before : (steps : ℕ) (after : State) → ArrivesAfter address next rest steps after → ArrivesAfter address s (i ∷ rest) (suc steps) after
      arrives_before steps after a = record {
        few = let le = a.few in omega (arith, le);
        ran = counted s.profile.burst i stepped a.ran;
        runs = (stepped, next, step, subst (λ (w : Option Why). Ends w s (counted s.profile.burst i stepped a.ran) after ((more : Ran) × Runs next (take steps rest) more after × (counted s.profile.burst i stepped a.ran ≡ counted s.profile.burst i stepped more))) (sym plain) (a.ran, a.runs, refl));
        steps_are = let is = a.steps_are in omega (arith, is);
        there = a.there;
        first = first_before steps a.first;
      }

    -- a step that stops is the last
    pub stops_elsewhere : (w : Why) → why_stopped stepped.kind ≡ Some w → NeverArrives address s (i ∷ rest)
    stops_elsewhere w stops zero ran now runs there = here_elsewhere s (i ∷ rest) other ran now runs there
    stops_elsewhere w stops (suc n) ran now runs there =
        let same = one_step s i stepped runs.0 next runs.1 step runs.2 in
        let some : why_stopped runs.0.kind ≡ Some w = ap (λ (t : Stepped). why_stopped t.kind) same.0 ∙ stops in
        let ends = subst (λ (v : Option Why). Ends v s ran now ((more : Ran) × Runs runs.1 (take n rest) more now × (ran ≡ counted s.profile.burst i runs.0 more))) some runs.3 in
        other (ap (λ (x : State). address_in x.regs) (sym ends.1) ∙ there)

  -- ## The loop

  -- what comes of the rest of the inputs comes of all
  pub record SoFarAway (start : State) (inputs : List Input) (i : ℕ) (now : State) : Type 0 where
    pub never : NeverArrives address now (drop i inputs) → NeverArrives address start inputs
    pub arrives : (n : ℕ) (after : State) → ArrivesAfter address now (drop i inputs) n after → ArrivesAfter address start inputs (i + n) after

  pub begun : (start : State) (inputs : List Input) → SoFarAway start inputs 0 start
  begun start inputs = record { never = λ h. h; arrives = λ n after a. subst (λ (k : ℕ). ArrivesAfter address start inputs k after) (omega arith) a }

  module _ (start : State) (inputs : List Input) (i : ℕ) (now : State) (so_far : SoFarAway start inputs i now) where
    pub is_there : address_in now.regs ≡ address → ArrivesAfter address start inputs i now
    is_there there = subst (λ (k : ℕ). ArrivesAfter address start inputs k now) (omega arith) (so_far.arrives 0 now (arrived now (drop i inputs) there))

    pub none_left : length inputs ≤ i → address_in now.regs ≢ address → NeverArrives address start inputs
    none_left le other = so_far.never (subst (NeverArrives address now) (sym (drop_all i inputs le)) (ends_elsewhere now other))

    module _ (d : Input) (lt : i < length inputs) (stepped : Stepped) (next : State) (step : Step now (get_or inputs i d) stepped next) (other : address_in now.regs ≢ address) where
      split : drop i inputs ≡ get_or inputs i d ∷ drop (i + 1) inputs
      split = rw (add-one) (drop-cons inputs i d lt)

      pub one_on : why_stopped stepped.kind ≡ None → SoFarAway start inputs (i + 1) next
      one_on plain = record {
        never = λ h. so_far.never (subst (NeverArrives address now) (sym split) (never_before now (get_or inputs i d) (drop (i + 1) inputs) stepped next step other plain h));
        arrives = λ n after a.
            subst (λ (k : ℕ). ArrivesAfter address start inputs k after) (omega arith)
            (so_far.arrives (suc n) after (subst (λ (xs : List Input). ArrivesAfter address now xs (suc n) after) (sym split) (arrives_before now (get_or inputs i d) (drop (i + 1) inputs) stepped next step other plain n after a)));
      }

      pub stopped_there : (w : Why) → why_stopped stepped.kind ≡ Some w → NeverArrives address start inputs
      stopped_there w stops = so_far.never (subst (NeverArrives address now) (sym split) (stops_elsewhere now (get_or inputs i d) (drop (i + 1) inputs) stepped next step other w stops))
