-- Steps that take FIQ: the one before another, and how many there are.
use Rattle.std.proofs.Common.{◌≡◌, ◌∙◌, ◌⊎◌, ℕ, ◌+◌, ◌*◌, ◌≤◌, zero, suc, List, [], ◌∷◌, ◌++◌, length, Option}
use Rattle.std.proofs.Common.{Some, None, refl, sym, ap, subst, inl, inr, arith, ⊎_elim}
use Rattle.std.proofs.Math.Nat.{mul-le-mul_right, suc-mul}
use Rattle.std.proofs.lemmas.List.Sums.{sum_by-cons}
use Rattle.std.proofs.lemmas.Option.{none-some}
use Rattle.bus_ticks.specs.declared.profile.Profile.{Profile}
use Rattle.image.specs.Image.{Words}
use Rattle.arm2_effect.specs.declared.exceptions.Vector.TheVariants.{Undefined, Swi, PrefetchAbort, DataAbort}
use Rattle.arm2_effect.specs.declared.exceptions.Vector.TheVariants.{AddressException, Irq, Fiq}
use Rattle.arm2_effect.specs.declared.step_end.Kind.{Kind}
use Rattle.arm2_effect.specs.declared.step_end.Kind.TheVariants.{Plain, Taken, Stopped}
use Rattle.arm2_effect.specs.declared.step_end.Why.{Why}
use Rattle.arm2_exec.specs.Run.{Ends, Runs, counted, why_stopped}
use Rattle.arm2_exec.specs.State.{State}
use Rattle.arm2_exec.specs.Step.{Step}
use Rattle.arm2_exec.specs.declared.machine.Input.{Input}
use Rattle.arm2_exec.specs.declared.machine.Ran.{Ran}
use Rattle.arm2_exec.specs.declared.machine.Stepped.{Stepped}
use Rattle.arm2_exec.proofs.StepLemmas.{one_step}
use Rattle.control_flow.specs.Flow.{Flow}
use Rattle.control_flow.specs.declared.edges.Edge.{Edge}
use Rattle.flow_graph.specs.StepLaw.{Follows, IsEdgeOf}
use Rattle.flow_graph.proofs.StepLemmas.{goes_on}
use Rattle.statement.specs.Stated.{Stated}
use Rattle.kept_runs.specs.Visited.{AreVisits, FollowsVisited, MainStep, Visit, inputs_of, visits_before}
use Rattle.kept_runs.specs.Visited.{visits_of}
use Rattle.handlers.specs.Keeping.{KeepsStatement}
use Rattle.handlers.specs.Visits.{AreTakenApart, ApartIsTakenEvery, IsTakenEvery, TakeFiq, TakesFiq}
use Rattle.handlers.specs.Visits.{VisitedIsTakenEvery, fiqs_of}
use Rattle.handlers.proofs.VisitRateLemmas.{at_once, later}

-- a step takes FIQ once, or not at all
fiq_cases : (k : Kind) → (fiqs_of k ≡ 0) ⊎ ((fiqs_of k ≡ 1) × (k ≡ Taken Fiq))
fiq_cases Plain = inl refl
fiq_cases (Stopped why) = inl refl
fiq_cases (Taken Undefined) = inl refl
fiq_cases (Taken Swi) = inl refl
fiq_cases (Taken PrefetchAbort) = inl refl
fiq_cases (Taken DataAbort) = inl refl
fiq_cases (Taken AddressException) = inl refl
fiq_cases (Taken Irq) = inl refl
fiq_cases (Taken Fiq) = inr (refl, refl)

-- ## A run that is not stopped

-- a run goes on after its first step
record GoesOn (s : State) (i : Input) (rest : List Input) (ran : Ran) (now : State) : Type 0 where
  stepped : Stepped
  next : State
  step : Step s i stepped next
  on : why_stopped stepped.kind ≡ None
  more : Ran
  runs : Runs next rest more now
  going : more.stopped ≡ None

went_on : (s : State) (i : Input) (rest : List Input) (ran : Ran) (now : State) → Runs s (i ∷ rest) ran now
    → ran.stopped ≡ None → GoesOn s i rest ran now
went_on s i rest ran now runs going = by_end (why_stopped runs.0.kind) refl runs.3
  where
    by_end : (why : Option Why) → why_stopped runs.0.kind ≡ why
        → Ends why s ran now ((more : Ran) × Runs runs.1 rest more now
        × (ran ≡ counted s.profile.burst i runs.0 more)) → GoesOn s i rest ran now
    by_end (Some why) is ends = absurd (none-some why (sym going ∙ ap (λ (r : Ran). r.stopped) ends.0))
    by_end None is ends = record {
      stepped = runs.0;
      next = runs.1;
      step = runs.2;
      on = is;
      more = ends.0;
      runs = ends.1;
      going = sym (ap (λ (r : Ran). r.stopped) ends.2) ∙ going;
    }

-- ## The step before another

-- a step that takes FIQ, so many others before it
record IsNumber (s : State) (inputs : List Input) (k : ℕ) : Type 0 where
  is : TakesFiq s inputs
  earlier_are : is.earlier ≡ k

-- where so many steps and one more take FIQ, one of them has so many before it
previous : (before rest : List Input) (s : State) (ran : Ran) (now : State) (k : ℕ) → Runs s before ran now
    → ran.stopped ≡ None → TakeFiq s before (suc k) → IsNumber s (before ++ rest) k
previous [] rest s ran now k runs going takes = absurd (let e : suc k ≡ 0 = takes in omega (arith, e))
previous (i ∷ before) rest s ran now k runs going takes =
    let first = went_on s i before ran now runs going in
    let same = one_step s i first.stepped takes.0 first.next takes.1 first.step takes.2 in
    let kind : takes.0.kind ≡ first.stepped.kind = ap (λ (t : Stepped). t.kind) same.0 in
    by_more first kind (λ more after. previous before rest first.next first.more now more first.runs
    first.going after)
    takes.3.0 (subst (λ (n : State). TakeFiq n before takes.3.0) same.1 takes.3.1) takes.3.2
  where
    by_more : (first : GoesOn s i before ran now) → takes.0.kind ≡ first.stepped.kind
        → ((more : ℕ) → TakeFiq first.next before (suc more) → IsNumber first.next (before ++ rest) more)
        → (more : ℕ) → TakeFiq first.next before more → suc k ≡ fiqs_of takes.0.kind + more
        → IsNumber s (i ∷ (before ++ rest)) k
    by_more first kind again zero after sum =
        ⊎_elim
        (λ (none : fiqs_of takes.0.kind ≡ 0). absurd (omega (arith, none, sum)))
        (λ (one : (fiqs_of takes.0.kind ≡ 1) × (takes.0.kind ≡ Taken Fiq)). record {
          is = at_once s i (before ++ rest) first.stepped first.next first.step (sym kind ∙ one.1);
          earlier_are = omega (arith, one.0, sum);
        })
        (fiq_cases takes.0.kind)
    by_more first kind again (suc more) after sum =
        let found = again more after in
        let earlier = found.earlier_are in
        let fiqs : fiqs_of takes.0.kind ≡ fiqs_of first.stepped.kind = ap fiqs_of kind in
        record {
          is = later s i (before ++ rest) first.stepped first.next first.step first.on found.is;
          earlier_are = omega (arith, earlier, fiqs, sum);
        }

-- the same step, by equal inputs
abbrev of_same : (s : State) (inputs other : List Input) → inputs ≡ other → TakesFiq s other
    → TakesFiq s inputs
of_same s inputs other same x = record {
  before = x.before;
  taking = x.taking;
  rest = x.rest;
  inputs_are = same ∙ x.inputs_are;
  ran = x.ran;
  now = x.now;
  runs = x.runs;
  goes_on = x.goes_on;
  earlier = x.earlier;
  earlier_are = x.earlier_are;
  stepped = x.stepped;
  entered = x.entered;
  step = x.step;
  takes_fiq = x.takes_fiq;
}

-- ## Steps that are apart

module _ (every : ℕ) (s : State) (inputs : List Input) (apart : AreTakenApart every s inputs) where
  begins_after : (k : ℕ) (x : TakesFiq s inputs) → x.earlier ≡ k → k * every ≤ x.ran.ticks
  begins_after zero x are = omega arith
  begins_after (suc k) x are =
      let found = previous x.before (x.taking ∷ x.rest) s x.ran x.now k x.runs x.goes_on
      (subst (TakeFiq s x.before) are x.earlier_are) in
      let earlier = found.earlier_are in
      let y = of_same s inputs (x.before ++ (x.taking ∷ x.rest)) x.inputs_are found.is in
      let far : y.ran.ticks + every ≤ x.ran.ticks = apart y x (omega (arith, are, earlier)) in
      let first : k * every ≤ y.ran.ticks = begins_after k y earlier in
      omega (arith, far, first, suc-mul k every)

pub apart_law : ApartIsTakenEvery
apart_law every waited s inputs apart x =
    let after = begins_after every s inputs apart x.earlier x refl in omega (arith, after)

-- ## Runs in which one step takes FIQ

-- no more steps take FIQ before one that takes it than in all, but for that one
fewer_before : (before : List Input) (i : Input) (rest : List Input) (s : State) (ran : Ran) (now : State)
    (earlier all : ℕ) (stepped : Stepped) (entered : State)
    → Runs s before ran now → ran.stopped ≡ None → TakeFiq s before earlier → Step now i stepped entered
    → stepped.kind ≡ Taken Fiq → TakeFiq s (before ++ i ∷ rest) all → suc earlier ≤ all
fewer_before [] i rest s ran now earlier all stepped entered runs going takes step taken total =
    let here : Step s i stepped entered = subst (λ (n : State). Step n i stepped entered) runs.1 step in
    let same = one_step s i stepped total.0 entered total.1 here total.2 in
    let one : fiqs_of total.0.kind ≡ 1 = ap (λ (t : Stepped). fiqs_of t.kind) same.0 ∙ ap fiqs_of taken in
    let none : earlier ≡ 0 = takes in
    let sum : all ≡ fiqs_of total.0.kind + total.3.0 = total.3.2 in
    omega (arith, one, none, sum)
fewer_before (j ∷ before) i rest s ran now earlier all stepped entered runs going takes step taken total =
    let first = went_on s j before ran now runs going in
    let same = one_step s j first.stepped takes.0 first.next takes.1 first.step takes.2 in
    let other = one_step s j first.stepped total.0 first.next total.1 first.step total.2 in
    let fewer =
    fewer_before before i rest first.next first.more now takes.3.0 total.3.0 stepped entered first.runs
    first.going
    (subst (λ (n : State). TakeFiq n before takes.3.0) same.1 takes.3.1) step taken
    (subst (λ (n : State). TakeFiq n (before ++ i ∷ rest) total.3.0) other.1 total.3.1) in
    let kinds : fiqs_of takes.0.kind ≡ fiqs_of total.0.kind =
    ap (λ (t : Stepped). fiqs_of t.kind) (same.0 ∙ sym other.0) in
    let sum : earlier ≡ fiqs_of takes.0.kind + takes.3.0 = takes.3.2 in
    let all_are : all ≡ fiqs_of total.0.kind + total.3.0 = total.3.2 in
    omega (arith, fewer, kinds, sum, all_are)

-- where so many steps take FIQ, and it may have waited for as many periods but for one
module _ (s : State) (inputs : List Input) (k : ℕ) (all : TakeFiq s inputs (suc k)) where
  at_most : (x : TakesFiq s inputs) → x.earlier ≤ k
  at_most x =
      let total : TakeFiq s (x.before ++ x.taking ∷ x.rest) (suc k) =
      subst (λ (is : List Input). TakeFiq s is (suc k)) x.inputs_are all in
      let few = fewer_before x.before x.taking x.rest s x.ran x.now x.earlier
      (suc k) x.stepped x.entered x.runs x.goes_on x.earlier_are x.step x.takes_fiq total in
      omega (arith, few)

  pub few_every : (every waited : ℕ) → k * every ≤ waited → IsTakenEvery every waited s inputs
  few_every every waited le x = let few = mul-le-mul_right every (at_most x) in omega (arith, few, le)

-- where one step takes FIQ
module _ (s : State) (inputs : List Input) (once : TakeFiq s inputs 1) where
  pub once_apart : (every : ℕ) → AreTakenApart every s inputs
  once_apart every x y next =
      let first = at_most s inputs 0 once y in
      absurd (omega (arith, first, next))

  pub once_every : (every waited : ℕ) → IsTakenEvery every waited s inputs
  once_every every waited = few_every s inputs 0 once every waited (omega arith)

-- ## Runs that keep both statements

-- the steps along a walk take no FIQ
take_along : (words : Words) (st : Stated) (profile : Profile) (s : State) (inputs rest : List Input)
    (walk : List Edge) (front : Ran) (mid : State) (more : ℕ)
    → Follows words st profile s inputs walk → Runs s inputs front mid → TakeFiq mid rest more
    → TakeFiq s (inputs ++ rest) more
take_along words st profile s [] rest [] front mid more follows runs takes =
    subst (λ (n : State). TakeFiq n rest more) runs.1 takes
take_along words st profile s [] rest (e ∷ walk) front mid more follows runs takes = absurd follows
take_along words st profile s (i ∷ inputs) rest [] front mid more follows runs takes = absurd follows
take_along words st profile s (i ∷ inputs) rest (e ∷ walk) front mid more follows runs takes =
    let plain = (follows.2).executes.plain in
    let on = goes_on s i inputs front mid follows.0 follows.1 (follows.2).executes.step
    (ap why_stopped plain) runs in
    let after = take_along words st profile follows.1 inputs rest walk on.0 mid more follows.3 on.1 takes in
    let none : fiqs_of follows.0.kind ≡ 0 = ap fiqs_of plain in
    (follows.0, follows.1, (follows.2).executes.step, (more, after, omega (arith, none)))

module _ (fiq_words : Words) (fiq : Stated) (profile : Profile) (fiq_flow : Flow) where
  abbrev Keeps : State → List Input → Type 0
  Keeps = KeepsStatement fiq_words fiq profile fiq_flow

  -- each visit takes FIQ once
  take_visits : (s : State) (visits : List Visit) (rest : List Input) (visited : State) (more : ℕ)
      → AreVisits Keeps profile s visits visited → TakeFiq visited rest more
      → TakeFiq s (visits_before visits rest) (length visits + more)
  take_visits s [] rest visited more are takes =
      let same : more ≡ 0 + more = omega arith in
      subst (TakeFiq s rest) same (subst (λ (n : State). TakeFiq n rest more) are takes)
  take_visits s (v ∷ visits) rest visited more are takes =
      let is = are.1 in
      let after = take_visits are.0 visits rest visited more are.2 takes in
      let handled =
      take_along fiq_words fiq profile is.entered v.handling (visits_before visits rest) is.keeps.walk
      is.ran are.0 (length visits + more) is.keeps.follows is.runs after in
      let one : fiqs_of is.stepped.kind ≡ 1 = ap fiqs_of is.takes_fiq in
      (is.stepped, is.entered, is.step, (length visits + more, handled, omega (arith, one)))

  take_main : (words : Words) (irq : Stated) (s : State) (steps : List MainStep) (walk : List Edge)
      → FollowsVisited Keeps profile words irq s steps walk → TakeFiq s (inputs_of steps) (visits_of steps)
  take_main words irq s [] [] follows = refl
  take_main words irq s [] (e ∷ walk) follows = absurd follows
  take_main words irq s (m ∷ steps) [] follows = absurd follows
  take_main words irq s (m ∷ steps) (e ∷ walk) follows =
      let visited : State = follows.0 in
      let stepped : Stepped = follows.2.0 in
      let next : State = follows.2.1 in
      let edge : IsEdgeOf words irq profile visited m.input stepped next e = follows.2.2 in
      let rest = take_main words irq next steps walk follows.2.3 in
      let none : fiqs_of stepped.kind ≡ 0 = ap fiqs_of edge.executes.plain in
      let step : TakeFiq visited (m.input ∷ inputs_of steps) (visits_of steps) =
      (stepped, next, edge.executes.step, (visits_of steps, rest, omega (arith, none))) in
      let sum : length m.visits + visits_of steps ≡ visits_of (m ∷ steps) =
      sym (sum_by-cons (λ (x : MainStep). length x.visits) m steps) in
      subst (TakeFiq s (inputs_of (m ∷ steps))) sum
      (take_visits s m.visits (m.input ∷ inputs_of steps) visited (visits_of steps) follows.1 step)

pub visited_law : VisitedIsTakenEvery
visited_law profile has every waited le =
    let keeps = has.keeps in
    let takes = take_main has.words has.fiq profile has.fiq_flow has.words has.irq has.s has.steps keeps.walk
    keeps.follows in
    few_every has.s (inputs_of has.steps) 1 (subst (TakeFiq has.s (inputs_of has.steps)) has.two takes) every
    waited (omega (arith, le))
