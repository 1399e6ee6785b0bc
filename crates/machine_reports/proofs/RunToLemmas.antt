-- A run that ends before the instruction at an address, step after step.
use Rattle.std.proofs.Common.{◌≡◌, ◌∙◌, ℕ, ◌+◌, ◌-◌, ◌<◌, suc, List, [], ◌∷◌, ◌++◌, length, take, drop}
use Rattle.std.proofs.Common.{Option, Some, None, refl, sym, ap, subst, inl, inr, below_more, arith}
use Rattle.std.proofs.Math.Seq.{take-append-add, take-length}
use Rattle.std.proofs.lemmas.Bool.{cases_order}
use Rattle.std.proofs.lemmas.List.{append-nil, length-take-le, take-append-drop}
use Rattle.arm2_effect.specs.declared.step_end.Kind.TheVariants.{Stopped}
use Rattle.arm2_effect.specs.declared.step_end.Why.{Why}
use Rattle.arm2_exec.specs.Run.{Ends, Runs, at_rest, counted, why_stopped, with_one_step}
use Rattle.arm2_exec.specs.State.{State}
use Rattle.arm2_exec.specs.Step.{Step, address_in as next_address, traced_word}
use Rattle.arm2_exec.specs.declared.machine.Input.{Input}
use Rattle.arm2_exec.specs.declared.machine.Ran.{Ran}
use Rattle.arm2_exec.specs.declared.machine.Stepped.{Stepped}
use Rattle.arm2_exec.specs.declared.machine.Traced.{Traced}
use Rattle.arm2_exec.proofs.RunLemmas.{added, at_end, at_stop}
use Rattle.arm2_exec.proofs.StepLemmas.{one_step, stopped_same, stops}
use Rattle.asm_text.specs.Appended.{Appends}
use Rattle.json_trace.specs.Records.{RecordsRun, facts_of}
use Rattle.json_trace.specs.StepLine.{IsStepLine, StepFacts}
use Rattle.json_trace.proofs.RecordLaws.{FrontRecorded, records_stop}
use Rattle.text_trace.specs.TraceText.{TracesRun}
use Rattle.text_trace.proofs.RunLaws.{FrontPrinted, FrontRuns, front_runs, text_stops}
use Rattle.machine_reports.specs.Machine.{ShowsRecords, ShowsSteps}
use Rattle.machine_reports.specs.RunTo.{IsNextAfter, RunsTo, ShowsRunTo}

-- a run has one end
one_end : (s : State) (inputs : List Input) (ran other : Ran) (after last : State) → Runs s inputs ran after
    → Runs s inputs other last → after ≡ last
one_end s [] ran other after last runs also = runs.1 ∙ sym also.1
one_end s (i ∷ inputs) ran other after last runs also =
    let same = one_step s i runs.0 also.0 runs.1 also.1 runs.2 also.2 in
    by_why (λ p q this that. one_end runs.1 inputs p q after last this that) (why_stopped runs.0.kind) runs.3
    (subst (λ (n : State). Ends (why_stopped runs.0.kind) s other last
    ((more : Ran) × Runs n inputs more last × (other ≡ counted s.profile.burst i runs.0 more))) same.1
    (subst (λ (r : Stepped). Ends (why_stopped r.kind) s other last
    ((more : Ran) × Runs also.1 inputs more last × (other ≡ counted s.profile.burst i r more))) same.0 also.3))
  where
    by_why : ((p q : Ran) → Runs runs.1 inputs p after → Runs runs.1 inputs q last → after ≡ last)
        → (why : Option Why)
        → Ends why s ran after
        ((more : Ran) × Runs runs.1 inputs more after × (ran ≡ counted s.profile.burst i runs.0 more))
        → Ends why s other last
        ((more : Ran) × Runs runs.1 inputs more last × (other ≡ counted s.profile.burst i runs.0 more))
        → after ≡ last
    by_why again None on too = again on.0 too.0 on.1 too.1
    by_why again (Some w) on too = on.1 ∙ sym too.1

from_nothing : (more : Ran) (P : Ran → Type 0) → P more → P (added (at_rest None) more)
from_nothing more P h =
    let steps : more.steps ≡ 0 + more.steps = omega arith in
    let ticks : more.ticks ≡ 0 + more.ticks = omega arith in
    let elapsed : more.elapsed ≡ 0 + more.elapsed = omega arith in
    subst P (λ k. record { steps = steps k; ticks = ticks k; elapsed = elapsed k; stopped = more.stopped }) h

-- so many steps have gone by, and after fewer the instruction at the address was not next
pub record Going (to : ℕ) (start : State) (inputs : List Input) (n : ℕ) (ran : Ran)
    (now : State) : Type 0 where
  pub front : FrontRuns start inputs n ran now
  pub going : ran.stopped ≡ None
  pub fewer : (m : ℕ) → m < n → ¬ IsNextAfter to start inputs m

module _ (to : ℕ) (start : State) (inputs : List Input) where
  pub at_start : Going to start inputs 0 (at_rest None) start
  at_start = record {
    front = λ tail more after runs. from_nothing more (λ r. Runs start tail r after) runs;
    going = refl;
    fewer = λ m less. absurd (omega (arith, less));
  }

  module _ (n : ℕ) (ran : Ran) (now : State) (so_far : Going to start inputs n ran now) where
    runs_here : Runs start (take n inputs) ran now
    runs_here =
        subst (λ (all : List Input). Runs start all ran now) (append-nil (take n inputs))
        (at_end start (take n inputs ++ []) ran now [] (so_far.front []) refl so_far.going)

    -- it is next
    pub reached : next_address now.regs ≡ to → RunsTo to start inputs n ran now
    reached at = record {
      fewest = record { fewer = so_far.fewer; enough = inl (ran, now, runs_here, at) };
      runs = runs_here;
    }

    -- all steps were made
    pub all_made : n ≡ length inputs → RunsTo to start inputs n ran now
    all_made all = record {
      fewest = record { fewer = so_far.fewer; enough = inr all };
      runs = runs_here;
    }

    not_here : ¬ (next_address now.regs ≡ to) → ¬ IsNextAfter to start inputs n
    not_here other (r, a, runs, at) =
        let same = one_end start (take n inputs) r ran a now runs runs_here in
        other (ap (λ (s : State). next_address s.regs) (sym same) ∙ at)

    -- the lines of the steps
    pub shown_here : (old new : List ℕ) → Appends (FrontPrinted start inputs n now) old new
        → RunsTo to start inputs n ran now → Appends (ShowsRunTo ShowsSteps to start inputs ran now) old new
    shown_here old new printed runs =
        let text : TracesRun start (take n inputs) printed.0 =
        subst (λ (all : List Input). TracesRun start all printed.0) (append-nil (take n inputs))
        (subst (TracesRun start (take n inputs ++ [])) (append-nil printed.0) (printed.1 [] [] refl)) in
        (printed.0, record { steps = n; runs = runs; shows = text }, printed.2)

    -- the records of the steps
    pub records_here : (old new : List ℕ) → Appends (FrontRecorded start inputs n ran now) old new
        → RunsTo to start inputs n ran now → Appends (ShowsRunTo ShowsRecords to start inputs ran now) old new
    records_here old new recorded runs =
        let text : RecordsRun start (take n inputs) recorded.0 =
        subst (λ (all : List Input). RecordsRun start all recorded.0) (append-nil (take n inputs))
        (subst (RecordsRun start (take n inputs ++ [])) (append-nil recorded.0) (recorded.1 [] [] refl)) in
        (recorded.0, record { steps = n; runs = runs; shows = text }, recorded.2)

    module _ (next : State) (i : Input) (other : ¬ (next_address now.regs ≡ to)) where
      -- the step at hand went on
      pub goes_on : (stepped : Stepped) → take (n + 1) inputs ≡ take n inputs ++ i ∷ []
          → Step now i stepped next → ((w : Why) → ¬ (stepped.kind ≡ Stopped w))
          → Going to start inputs (n + 1) (with_one_step now.profile.burst i stepped ran) next
      goes_on stepped here step not_stopped =
          let traced : Traced = record { stepped = stepped; word = None } in
          record {
            front = front_runs start inputs n now next i traced here step not_stopped ran so_far.front;
            going = so_far.going;
            fewer = below_more (λ m. ¬ IsNextAfter to start inputs m) n so_far.fewer (not_here other);
          }

      -- it is stopped
      module _ (rest : List Input) (traced : Traced) (w : Why) (less : n < length inputs)
          (at_hand : drop n inputs ≡ i ∷ rest) (step : Step now i traced.stepped next)
          (is : traced.stepped.kind ≡ Stopped w) where
        abbrev stopped : Ran
        stopped = record ran { stopped = Some w }

        whole : take n inputs ++ i ∷ rest ≡ inputs
        whole = ap (λ (left : List Input). take n inputs ++ left) (sym at_hand) ∙ take-append-drop n inputs

        stops_before : (tail : List Input) → Runs start (take n inputs ++ i ∷ tail) stopped next
        stops_before tail =
            at_stop start (take n inputs ++ i ∷ tail) ran now next (i ∷ tail) tail i traced.stepped w
            (so_far.front (i ∷ tail)) refl step is

        longer : (m : ℕ) → n < m → take m inputs ≡ take n inputs ++ i ∷ take (m - (n + 1)) rest
        longer m more =
            let len : length (take n inputs) ≡ n = length-take-le n inputs (omega (arith, less)) in
            let m_is : m ≡ length (take n inputs) + suc (m - (n + 1)) = omega (arith, len, more) in
            ap (take m) (sym whole)
            ∙ ap (λ (k : ℕ). take k (take n inputs ++ i ∷ rest)) m_is
            ∙ take-append-add (take n inputs) (i ∷ rest) (suc (m - (n + 1)))

        -- the machine stays where it stopped
        not_later : (m : ℕ) → n < m → ¬ IsNextAfter to start inputs m
        not_later m more (r, a, runs, at) =
            let run = subst (λ (all : List Input). Runs start all r a) (longer m more) runs in
            let end = one_end start _ r stopped a next run (stops_before (take (m - (n + 1)) rest)) in
            let same = stopped_same now i traced.stepped next step (stops traced.stepped.kind w is) in
            other (ap (λ (s : State). next_address s.regs) (sym (end ∙ same)) ∙ at)

        never : (m : ℕ) → ¬ IsNextAfter to start inputs m
        never m = elim (cases_order m n) [
          | inl here ↦ subst (λ (k : ℕ). ¬ IsNextAfter to start inputs k) (sym here) (not_here other)
          | inr (inl fewer) ↦ so_far.fewer m fewer
          | inr (inr more) ↦ not_later m more
        ]

        pub is_stopped : RunsTo to start inputs (length inputs) stopped next
        is_stopped = record {
          fewest = record { fewer = λ m below. never m; enough = inr refl };
          runs =
              subst (λ (all : List Input). Runs start all stopped next) (whole ∙ sym (take-length inputs))
              (stops_before rest);
        }

        pub shown_stopped : (old new : List ℕ) → traced.word ≡ traced_word now i
            → Appends (FrontPrinted start inputs n now) old new
            → Appends (ShowsRunTo ShowsSteps to start inputs stopped next) old new
        shown_stopped old new word printed =
            let text =
            text_stops start (take n inputs ++ i ∷ rest) now next (i ∷ rest) rest i traced refl step w old new
            word is (printed.0, printed.1 (i ∷ rest), printed.2) in
            let shows : TracesRun start (take (length inputs) inputs) text.0 =
            subst (λ (all : List Input). TracesRun start all text.0) (whole ∙ sym (take-length inputs))
            text.1 in
            (text.0, record { steps = length inputs; runs = is_stopped; shows = shows }, text.2)

        pub records_stopped : (facts : StepFacts)
            → facts ≡ facts_of ran.steps ran.elapsed now i traced.stepped next step
            → (old mid new : List ℕ) → Appends (FrontRecorded start inputs n ran now) old mid
            → Appends (IsStepLine facts) mid new
            → Appends (ShowsRunTo ShowsRecords to start inputs stopped next) old new
        records_stopped facts are old mid new recorded line =
            let text =
            records_stop start (take n inputs ++ i ∷ rest) ran now next (i ∷ rest) rest i traced.stepped refl step
            facts are w old mid new is (recorded.0, recorded.1 (i ∷ rest), recorded.2) line in
            let shows : RecordsRun start (take (length inputs) inputs) text.0 =
            subst (λ (all : List Input). RecordsRun start all text.0) (whole ∙ sym (take-length inputs))
            text.1 in
            (text.0, record { steps = length inputs; runs = is_stopped; shows = shows }, text.2)
