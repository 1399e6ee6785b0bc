-- A run that is watched, step after step.
use Rattle.std.proofs.Common.{◌≡◌, ◌∙◌, ℕ, zero, suc, ◌+◌, ◌-◌, ◌*◌, ◌<◌, ◌≤◌, Bool, true, false, List, []}
use Rattle.std.proofs.Common.{◌∷◌, ◌++◌, Option, Some, None, refl, sym, ap, append_assoc, arith, subst}
use Rattle.std.specs.Prelude.{is_some}
use Rattle.std.proofs.lemmas.List.{append-nil}
use Rattle.arm2_effect.specs.declared.step_end.Why.{Why}
use Rattle.arm2_exec.specs.declared.machine.Input.{Input}
use Rattle.arm2_exec.specs.declared.machine.Ran.{Ran}
use Rattle.arm2_exec.specs.declared.machine.Stepped.{Stepped}
use Rattle.arm2_exec.specs.State.{State}
use Rattle.arm2_exec.specs.Step.{Step}
use Rattle.arm2_exec.specs.Run.{Ends, Runs, at_rest, counted, why_stopped}
use Rattle.arm2_exec.proofs.StepLemmas.{stopped_same, stops}
use Rattle.arm2_exec.proofs.RunLemmas.{added, goes, plus_none, why_of}
use Rattle.arm2_exec.specs.declared.machine.Traced.{Traced}
use Rattle.asm_text.specs.Appended.{Appends}
use Rattle.text_trace.specs.TraceText.{IsLineOf, IsTraceLine}
use Rattle.arm2_effect.specs.declared.step_end.Kind.{Kind}
use Rattle.arm2_effect.specs.declared.step_end.Kind.TheVariants.{Plain, Taken, Stopped}
use Rattle.debugger.specs.Stepping.{Counts, Makes, Stops}
use Rattle.debugger.specs.Watching.{EndsAt, IsLast, UpTo, Watches, as_shown, inputs_of, is_at_break}
use Rattle.debugger.specs.SessionState.{SessionState, without_bursts}
use Rattle.debugger.specs.Answers.{RunsFirst}

-- ## The inputs of a run

-- those that are left, with the first at hand
pub at_hand : (i : Input) (steps made : ℕ) → made < steps
    → inputs_of i (steps - made) ≡ i ∷ inputs_of (without_bursts i) (steps - (made + 1))
at_hand i steps made less =
    let one : steps - made ≡ suc (steps - (made + 1)) = omega (arith, less) in
    ap (inputs_of i) one

pub none_left : (i : Input) (steps made : ℕ) → steps ≤ made → inputs_of i (steps - made) ≡ []
none_left i steps made all = let none : steps - made ≡ 0 = omega (arith, all) in ap (inputs_of i) none

-- ## What has run, whatever follows

pub record SoFar (breaks : List ℕ) (start : State) (inputs : List Input) (now : State) (left : List Input)
    (ran : Ran) (last : Option Traced) : Type 0 where
  pub made : List Traced
  pub whole : (later : List Traced) (more : Ran) (after : State) → Watches breaks now left later more after
      → Watches breaks start inputs (made ++ later) (added ran more) after
  pub ends : IsLast made last
  pub going : ran.stopped ≡ None

-- what a whole run is
abbrev pub Done : (breaks : List ℕ) → State → List Input → Ran → Option Traced → State → Type 0
Done breaks start inputs ran last after =
    (made : List Traced) × Watches breaks start inputs made ran after × IsLast made last

from_nothing : (more : Ran) (P : Ran → Type 0) → P more → P (added (at_rest None) more)
from_nothing more P h =
    let steps : more.steps ≡ 0 + more.steps = omega arith in
    let ticks : more.ticks ≡ 0 + more.ticks = omega arith in
    let elapsed : more.elapsed ≡ 0 + more.elapsed = omega arith in
    subst P (λ k. record { steps = steps k; ticks = ticks k; elapsed = elapsed k; stopped = more.stopped }) h

pub at_start : (breaks : List ℕ) (start : State) (inputs : List Input)
    → SoFar breaks start inputs start inputs (at_rest None) None
at_start breaks start inputs = record {
  made = [];
  whole = λ later more after watches. from_nothing more
      (λ r. Watches breaks start inputs later r after) watches;
  ends = refl;
  going = refl;
}

-- nothing is added
unadded : (ran : Ran) (why : Option Why) → added ran (at_rest why) ≡ record ran { stopped = why }
unadded ran why = λ k. record {
  steps = sym (plus_none ran.steps) k;
  ticks = sym (plus_none ran.ticks) k;
  elapsed = sym (plus_none ran.elapsed) k;
  stopped = why;
}

-- the run ends where it is
ended : (breaks : List ℕ) (start : State) (inputs : List Input) (now : State) (left : List Input)
    (ran : Ran) (last : Option Traced) (why : Option Why)
    → SoFar breaks start inputs now left ran last → Watches breaks now left [] (at_rest why) now
    → Done breaks start inputs (record ran { stopped = why }) last now
ended breaks start inputs now left ran last why so_far rests =
    let same = unadded ran why in
    let made = append-nil so_far.made in
    let whole = so_far.whole [] (at_rest why) now rests in
    let P : List Traced → Type 0 = λ ts. Watches breaks start inputs ts (added ran (at_rest why)) now in
    let Q : Ran → Type 0 = λ r. Watches breaks start inputs so_far.made r now in
    (so_far.made, subst Q same (subst P made whole), so_far.ends)

-- all inputs were taken
pub run_ends : (breaks : List ℕ) (start : State) (inputs : List Input) (now : State) (left : List Input)
    (ran : Ran) (last : Option Traced)
    → SoFar breaks start inputs now left ran last → left ≡ [] → Done breaks start inputs ran last now
run_ends breaks start inputs now left ran last so_far none =
    let P : List Input → Type 0 = λ is. Watches breaks now is [] (at_rest None) now in
    let done =
    ended breaks start inputs now left ran last None so_far (subst P (sym none) (refl, refl, refl)) in
    subst (λ (why : Option Why). Done breaks start inputs (record ran { stopped = why }) last now)
    (sym so_far.going) done

-- ## A step more

module _ (breaks : List ℕ) (start : State) (inputs : List Input) (now next : State) (left rest : List Input)
    (i : Input) (ran sum : Ran) (last : Option Traced) (at_hand : left ≡ i ∷ rest)
    (so_far : SoFar breaks start inputs now left ran last) where
  abbrev Onward : Traced → List Traced → Ran → State → Type 0
  Onward traced made more after =
      (later : List Traced) × (rests : Ran)
      × (made ≡ traced ∷ later) × (more ≡ counted now.profile.burst i traced.stepped rests)
      × UpTo (is_at_break breaks next) next later rests after (Watches breaks next rest later rests after)

  abbrev On : Traced → List Traced → Ran → State → Type 0
  On traced made more after =
      EndsAt (why_stopped traced.stepped.kind) now made more after (Onward traced made more after)

  here : (traced : Traced) (made : List Traced) (more : Ran) (after : State) → Makes now i traced next
      → On traced made more after → Watches breaks now left made more after
  here traced made more after makes on =
      subst (λ (is : List Input). Watches breaks now is made more after) (sym at_hand)
      (traced, next, makes, on)

  -- it was stopped
  pub run_stops : Stops now i ran sum next → Done breaks start inputs sum last next
  run_stops (traced, w, makes, is, sum_is) =
      let same : next ≡ now =
      stopped_same now i traced.stepped next makes.0 (stops traced.stepped.kind w is) in
      let on : On traced [] (at_rest (Some w)) now =
      subst (λ (why : Option Why). EndsAt why now [] (at_rest (Some w)) now
      (Onward traced [] (at_rest (Some w)) now)) (sym (why_of traced.stepped.kind w is)) (refl, refl, refl) in
      let done =
      ended breaks start inputs now left ran last (Some w) so_far
      (here traced [] (at_rest (Some w)) now makes on) in
      let there =
      subst (λ (s : State). Done breaks start inputs (record ran { stopped = Some w }) last s)
      (sym same) done in
      subst (λ (r : Ran). Done breaks start inputs r last next) (sym sum_is) there

  module _ (traced : Traced) (counts : Counts now i ran traced sum next) where
    passes : (later : List Traced) (more : Ran) (after : State)
        → UpTo (is_at_break breaks next) next later more after (Watches breaks next rest later more after)
        → Watches breaks start inputs ((so_far.made ++ traced ∷ []) ++ later) (added sum more) after
    passes later more after up =
        let whole = counted now.profile.burst i traced.stepped more in
        let on : On traced (traced ∷ later) whole after =
        subst (λ (why : Option Why). EndsAt why now (traced ∷ later) whole after
        (Onward traced (traced ∷ later) whole after)) (sym (goes traced.stepped.kind counts.1))
        (later, more, refl, refl, up) in
        let all =
        so_far.whole (traced ∷ later) whole after (here traced (traced ∷ later) whole after counts.0 on) in
        let steps : ran.steps + (1 + more.steps) ≡ ran.steps + 1 + more.steps = omega arith in
        let ticks : ran.ticks + (traced.stepped.ticks + more.ticks)
        ≡ ran.ticks + traced.stepped.ticks + more.ticks = omega arith in
        let elapsed : ran.elapsed + (traced.stepped.ticks + now.profile.burst * i.bursts + more.elapsed)
        ≡ ran.elapsed + (traced.stepped.ticks + now.profile.burst * i.bursts) + more.elapsed = omega arith in
        let P : List Traced → Type 0 = λ ts. Watches breaks start inputs ts (added ran whole) after in
        let Q : Ran → Type 0 =
        λ r. Watches breaks start inputs ((so_far.made ++ traced ∷ []) ++ later) r after in
        let made = subst P (sym (append_assoc so_far.made (traced ∷ []) later)) all in
        let counted_on =
        subst Q
        (λ k. record { steps = steps k; ticks = ticks k; elapsed = elapsed k; stopped = more.stopped })
        made in
        subst (λ (r : Ran). Q (added r more)) (sym counts.2) counted_on

    still_going : sum.stopped ≡ None
    still_going = ap (λ (r : Ran). r.stopped) counts.2 ∙ so_far.going

    -- it went on
    pub run_goes : is_at_break breaks next ≡ false
        → SoFar breaks start inputs next rest sum (Some (as_shown traced))
    run_goes clear = record {
      made = so_far.made ++ traced ∷ [];
      whole = λ later more after on. passes later more after
          (subst (λ (b : Bool). UpTo b next later more after (Watches breaks next rest later more after))
          (sym clear) on);
      ends = (so_far.made, traced, refl, refl);
      going = still_going;
    }

    -- it reached a breakpoint
    pub run_breaks : is_at_break breaks next ≡ true
        → Done breaks start inputs sum (Some (as_shown traced)) next
    run_breaks at =
        let Up : Bool → Type 0 =
        λ b. UpTo b next [] (at_rest None) next (Watches breaks next rest [] (at_rest None) next) in
        let all = passes [] (at_rest None) next (subst Up (sym at) (refl, refl, refl)) in
        let going = still_going in
        let clear : record sum { stopped = None } ≡ sum =
        ap (λ (why : Option Why). record sum { stopped = why }) (sym going) in
        let same : added sum (at_rest None) ≡ sum = unadded sum None ∙ clear in
        let made = so_far.made ++ traced ∷ [] in
        let P : List Traced → Type 0 =
        λ ts. Watches breaks start inputs ts (added sum (at_rest None)) next in
        let Q : Ran → Type 0 = λ r. Watches breaks start inputs made r next in
        (made, subst Q same (subst P (append-nil made) all), (so_far.made, traced, refl, refl))

-- ## What a watched run is

module _ (s next : State) (i : Input) (rest : List Input) (traced : Traced)
    (makes : Makes s i traced next) where
  abbrev Steps : (breaks : List ℕ) → List Traced → Ran → State → Type 0
  Steps breaks made ran after =
      (later : List Traced) × (more : Ran)
      × (made ≡ traced ∷ later) × (ran ≡ counted s.profile.burst i traced.stepped more)
      × UpTo (is_at_break breaks next) next later more after (Watches breaks next rest later more after)

  -- no step was taken
  none_first : (ran : Ran) (after : State) → ran.steps ≡ 0 → ran.ticks ≡ 0 → ran.elapsed ≡ 0 → after ≡ s
      → RunsFirst s (i ∷ rest) ran after
  none_first ran after steps ticks elapsed same = (
    [],
    i ∷ rest,
    refl,
    (
      (λ k. record
          { steps = steps k; ticks = ticks k; elapsed = elapsed k; stopped = None }),
      same,
    ),
  )

  -- a step before others
  one_first : (ran more : Ran) (after : State) → why_stopped traced.stepped.kind ≡ None
      → ran ≡ counted s.profile.burst i traced.stepped more → RunsFirst next rest more after
      → RunsFirst s (i ∷ rest) ran after
  one_first ran more after going is (taken, left, parts, runs) = (
    i ∷ taken,
    left,
    ap (λ (l : List Input). i ∷ l) parts,
    (
      traced.stepped,
      next,
      makes.0,
      subst (λ (why : Option Why). Ends why s (record ran { stopped = None }) after
          ((m : Ran) × Runs next taken m after
          × (record ran { stopped = None } ≡ counted s.profile.burst i traced.stepped m))) (sym going)
          (record more { stopped = None }, runs, ap (λ (r : Ran). record r { stopped = None }) is),
    ),
  )

  first_of_up : (b : Bool) (breaks : List ℕ) (later : List Traced) (more : Ran) (after : State)
      → (Watches breaks next rest later more after → RunsFirst next rest more after)
      → UpTo b next later more after (Watches breaks next rest later more after)
      → RunsFirst next rest more after
  first_of_up false breaks later more after on watches = on watches
  first_of_up true breaks later more after on rests =
      ([], rest, refl, (ap (λ (r : Ran). record r { stopped = None }) rests.1, rests.2))

  first_of_end : (why : Option Why) (breaks : List ℕ) (made : List Traced) (ran : Ran) (after : State)
      → why_stopped traced.stepped.kind ≡ why
      → ((later : List Traced) (more : Ran) → Watches breaks next rest later more after
      → RunsFirst next rest more after)
      → EndsAt why s made ran after (Steps breaks made ran after) → RunsFirst s (i ∷ rest) ran after
  first_of_end (Some why) breaks made ran after is on rests =
      none_first ran after (ap (λ (r : Ran). r.steps) rests.1) (ap (λ (r : Ran). r.ticks) rests.1)
      (ap (λ (r : Ran). r.elapsed) rests.1) rests.2
  first_of_end None breaks made ran after is on (later, more, made_are, ran_is, up) =
      one_first ran more after is ran_is
      (first_of_up (is_at_break breaks next) breaks later more after (on later more) up)

-- it is the run of the first inputs
pub first_of_watch : (breaks : List ℕ) (s : State) (inputs : List Input) (made : List Traced) (ran : Ran)
    (after : State) → Watches breaks s inputs made ran after → RunsFirst s inputs ran after
first_of_watch breaks s [] made ran after watches =
    ([], [], refl, (ap (λ (r : Ran). record r { stopped = None }) watches.1, watches.2))
first_of_watch breaks s (i ∷ rest) made ran after (traced, next, makes, on) =
    first_of_end s next i rest traced makes (why_stopped traced.stepped.kind) breaks made ran after refl
    (λ later more watches. first_of_watch breaks next rest later more after watches) on

-- ## A run of a step or more

counted_some : (r more : Ran) (burst : ℕ) (i : Input) (stepped : Stepped) → r ≡ counted burst i stepped more
    → 0 < r.steps
counted_some r more burst i stepped is =
    let same : r.steps ≡ 1 + more.steps = ap (λ (x : Ran). x.steps) is in
    omega (arith, same)

no_last : (before : List Traced) (last : Traced) → before ++ last ∷ [] ≡ [] → ⊥
no_last [] last none = absurd cc
no_last (first ∷ before) last none = absurd cc

some_end : (why : Option Why) (s : State) (made : List Traced) (ran : Ran) (after : State)
    (goes_on : Type 0) → (made ≡ [] → ⊥) → (goes_on → 0 < ran.steps) → EndsAt why s made ran after goes_on
    → 0 < ran.steps
some_end (Some why) s made ran after goes_on some counts rests = absurd (some rests.0)
some_end None s made ran after goes_on some counts on = counts on

pub some_steps : (breaks : List ℕ) (s : State) (inputs : List Input) (before : List Traced) (last : Traced)
    (ran : Ran) (after : State) → Watches breaks s inputs (before ++ last ∷ []) ran after → 0 < ran.steps
some_steps breaks s [] before last ran after watches = absurd (no_last before last watches.0)
some_steps breaks s (i ∷ rest) before last ran after (traced, next, makes, on) =
    some_end (why_stopped traced.stepped.kind) s (before ++ last ∷ []) ran after _ (no_last before last)
    (λ (later, more, made_are, ran_is, up). counted_some ran more s.profile.burst i traced.stepped ran_is) on

-- ## A run without a step

-- the next step is stopped
abbrev pub StopsAt : State → Input → Type 0
StopsAt s i =
    (stepped : Stepped) × (after : State) × Step s i stepped after
    × (is_some (why_stopped stepped.kind) ≡ true)

still_end : (why : Option Why) (s : State) (made : List Traced) (ran : Ran) (after : State)
    (goes_on : Type 0) → (goes_on → ⊥) → EndsAt why s made ran after goes_on
    → (after ≡ s) × (is_some why ≡ true)
still_end (Some why) s made ran after goes_on no_step rests = (rests.2, refl)
still_end None s made ran after goes_on no_step on = absurd (no_step on)

no_first : (made later : List Traced) (first : Traced) → made ≡ [] → made ≡ first ∷ later → ⊥
no_first made later first none is = absurd cc

pub still : (breaks : List ℕ) (s : State) (i : Input) (n : ℕ) (made : List Traced) (ran : Ran)
    (after : State) → 0 < n → Watches breaks s (inputs_of i n) made ran after → made ≡ []
    → (after ≡ s) × StopsAt s i
still breaks s i zero made ran after some watches none = absurd (omega arith)
still breaks s i (suc n) made ran after some (traced, next, makes, on) none =
    let at_end =
    still_end (why_stopped traced.stepped.kind) s made ran after _
    (λ (later, more, made_are, ran_is, up). no_first made later traced none made_are) on in
    (at_end.0, (traced.stepped, next, makes.0, at_end.1))

-- the same of a run that is not watched
rest_end : (why : Option Why) (s : State) (ran : Ran) (after : State) (goes_on : Type 0) → (goes_on → ⊥)
    → Ends why s ran after goes_on → (after ≡ s) × (is_some why ≡ true)
rest_end (Some why) s ran after goes_on no_step rests = (rests.1, refl)
rest_end None s ran after goes_on no_step on = absurd (no_step on)

pub still_run : (s : State) (i : Input) (n : ℕ) (ran : Ran) (after : State) → 0 < n
    → Runs s (inputs_of i n) ran after → ran.steps ≡ 0 → (after ≡ s) × StopsAt s i
still_run s i zero ran after some runs none = absurd (omega arith)
still_run s i (suc n) ran after some (stepped, next, step, on) none =
    let at_end =
    rest_end (why_stopped stepped.kind) s ran after _
    (λ (more, runs, is). let some = counted_some ran more s.profile.burst i stepped is in
    omega (arith, some, none)) on in
    (at_end.0, (stepped, next, step, at_end.1))

-- ## The last step

-- no step was made where there is no last one
pub none_made : (made : List Traced) (last : Option Traced) → ((t : Traced) → last ≡ Some t → ⊥)
    → IsLast made last → made ≡ []
none_made made None none is = is
none_made made (Some t) none is = absurd (none t refl)

-- with the last one at hand
pub with_last : (made : List Traced) (o : Option Traced) (last : Traced) → o ≡ Some last → IsLast made o
    → (before : List Traced) × (step : Traced) × (made ≡ before ++ step ∷ []) × (last ≡ as_shown step)
with_last made o last is ends = subst (IsLast made) is ends

-- which has the line of the step itself
pub same_line : (step last : Traced) (line : List ℕ) → last ≡ as_shown step → IsTraceLine last line
    → IsTraceLine step line
same_line step last line is shown =
    by_kind step.stepped.kind (subst (λ (t : Traced). IsTraceLine t line) is shown)
  where
    by_kind : (kind : Kind) → IsLineOf kind (as_shown step) line → IsLineOf kind step line
    by_kind (Stopped why) h = h
    by_kind (Taken vector) h = h
    by_kind Plain h = h

-- what is added to nothing
pub added_alone : (Is : List ℕ → Type 0) (old new : List ℕ) → old ≡ [] → Appends Is old new → Is new
added_alone Is old new none (text, is, whole) =
    subst Is (sym (whole ∙ ap (λ (t : List ℕ). t ++ text) none)) is

-- a session, by its machine
abbrev pub session_on : (breaks : List ℕ) (next : Input) (ticks elapsed : ℕ) → State → SessionState
session_on breaks next ticks elapsed machine =
    record { machine = machine; breaks = breaks; next = next; ticks = ticks; elapsed = elapsed }
