-- A run, step after step.
use Rattle.std.proofs.Common.{◌≡◌, ℕ, ◌+◌, ◌*◌, List, [], ◌∷◌, Option, Some, None, refl, sym, ap, arith, subst}
use Rattle.arm2_effect.specs.declared.step_end.Kind.{Kind}
use Rattle.arm2_effect.specs.declared.step_end.Kind.TheVariants.{Plain, Taken, Stopped}
use Rattle.arm2_effect.specs.declared.step_end.Why.{Why}
use Rattle.arm2_exec.specs.declared.machine.Input.{Input}
use Rattle.arm2_exec.specs.declared.machine.Ran.{Ran}
use Rattle.arm2_exec.specs.declared.machine.Stepped.{Stepped}
use Rattle.arm2_exec.specs.State.{State}
use Rattle.arm2_exec.specs.Step.{Step}
use Rattle.arm2_exec.specs.Run.{Ends, Runs, at_rest, counted, with_one_step, why_stopped}
use Rattle.arm2_exec.proofs.StepLemmas.{stopped_same, stops}

-- what has run, before what is left
abbrev pub added : Ran → Ran → Ran
added ran more = record { steps = ran.steps + more.steps; ticks = ran.ticks + more.ticks; elapsed = ran.elapsed + more.elapsed; stopped = more.stopped }

-- whatever follows from here, the whole run is what has run and that
abbrev pub SoFar : State → List Input → Ran → State → List Input → Type 0
SoFar start inputs ran now left = (more : Ran) (after : State) → Runs now left more after → Runs start inputs (added ran more) after

pub plus_none : (n : ℕ) → n ≡ n + 0
plus_none n = omega arith

pub ends_with : (start : State) (inputs : List Input) (ran : Ran) (now after : State) (left : List Input) (why : Option Why) → SoFar start inputs ran now left → Runs now left (at_rest why) after
    → Runs start inputs (record { steps = ran.steps; ticks = ran.ticks; elapsed = ran.elapsed; stopped = why }) after
ends_with start inputs ran now after left why so_far runs =
    subst (λ (r : Ran). Runs start inputs r after) (λ k. record { steps = sym (plus_none ran.steps) k; ticks = sym (plus_none ran.ticks) k; elapsed = sym (plus_none ran.elapsed) k; stopped = why }) (so_far (at_rest why) after runs)

-- the last input was taken
pub at_end : (start : State) (inputs : List Input) (ran : Ran) (now : State) (left : List Input) → SoFar start inputs ran now left → left ≡ [] → ran.stopped ≡ None → Runs start inputs ran now
at_end start inputs ran now left so_far none going =
    subst (λ (why : Option Why). Runs start inputs (record { steps = ran.steps; ticks = ran.ticks; elapsed = ran.elapsed; stopped = why }) now) (sym going)
    (ends_with start inputs ran now now left None so_far (subst (λ (is : List Input). Runs now is (at_rest None) now) (sym none) (refl, refl)))

pub why_of : (k : Kind) (w : Why) → k ≡ Stopped w → why_stopped k ≡ Some w
why_of k w is = ap why_stopped is

pub goes : (k : Kind) → ((w : Why) → k ≡ Stopped w → ⊥) → why_stopped k ≡ None
goes Plain not_stopped = refl
goes (Taken v) not_stopped = refl
goes (Stopped w) not_stopped = absurd (not_stopped w refl)

pub ends_some : (k : Kind) (w : Why) (now after : State) (ran : Ran) (goes_on : Type 0) → k ≡ Stopped w → ran ≡ at_rest (Some w) → after ≡ now → Ends (why_stopped k) now ran after goes_on
ends_some k w now after ran goes_on is rest same = subst (λ (why : Option Why). Ends why now ran after goes_on) (sym (why_of k w is)) (rest, same)

pub ends_none : (k : Kind) (now after : State) (ran : Ran) (goes_on : Type 0) → ((w : Why) → k ≡ Stopped w → ⊥) → goes_on → Ends (why_stopped k) now ran after goes_on
ends_none k now after ran goes_on not_stopped more = subst (λ (why : Option Why). Ends why now ran after goes_on) (sym (goes k not_stopped)) more

-- the step at hand stopped
pub at_stop : (start : State) (inputs : List Input) (ran : Ran) (now after : State) (left rest : List Input) (i : Input) (stepped : Stepped) (w : Why) → SoFar start inputs ran now left → left ≡ i ∷ rest
    → Step now i stepped after → stepped.kind ≡ Stopped w → Runs start inputs (record { steps = ran.steps; ticks = ran.ticks; elapsed = ran.elapsed; stopped = Some w }) after
at_stop start inputs ran now after left rest i stepped w so_far next step is =
    ends_with start inputs ran now after left (Some w) so_far
    (subst (λ (is : List Input). Runs now is (at_rest (Some w)) after) (sym next)
    (stepped, after, step, ends_some stepped.kind w now after (at_rest (Some w)) _ is refl (stopped_same now i stepped after step (stops stepped.kind w is))))

-- the step at hand went on
pub more_steps : (start : State) (inputs : List Input) (ran : Ran) (now next : State) (left rest : List Input) (i : Input) (stepped : Stepped) → SoFar start inputs ran now left → left ≡ i ∷ rest
    → Step now i stepped next → ((w : Why) → stepped.kind ≡ Stopped w → ⊥)
    → SoFar start inputs (with_one_step now.profile.burst i stepped ran) next rest
more_steps start inputs ran now next left rest i stepped so_far at_hand step not_stopped = λ more after runs.
    let here : Runs now (i ∷ rest) (counted now.profile.burst i stepped more) after =
    (stepped, next, step, ends_none stepped.kind now after (counted now.profile.burst i stepped more) ((m : Ran) × Runs next rest m after × (counted now.profile.burst i stepped more ≡ counted now.profile.burst i stepped m)) not_stopped (more, runs, refl)) in
    let whole = so_far (counted now.profile.burst i stepped more) after (subst (λ (is : List Input). Runs now is (counted now.profile.burst i stepped more) after) (sym at_hand) here) in
    let steps : ran.steps + (1 + more.steps) ≡ ran.steps + 1 + more.steps = omega arith in
    let ticks : ran.ticks + (stepped.ticks + more.ticks) ≡ ran.ticks + stepped.ticks + more.ticks = omega arith in
    let elapsed : ran.elapsed + (stepped.ticks + now.profile.burst * i.bursts + more.elapsed) ≡ ran.elapsed + (stepped.ticks + now.profile.burst * i.bursts) + more.elapsed = omega arith in
    subst (λ (r : Ran). Runs start inputs r after) (λ k. record { steps = steps k; ticks = ticks k; elapsed = elapsed k; stopped = more.stopped }) whole
