-- The lines of a run, step after step.
use Rattle.std.proofs.Common.{◌≡◌, ◌∙◌, ℕ, ◌+◌, ◌*◌, List, [], ◌∷◌, ◌++◌, Option, refl, sym, ap, append_assoc, subst, take}
use Rattle.std.proofs.lemmas.List.{append-nil}
use Rattle.arm2_effect.specs.declared.step_end.Kind.{Kind}
use Rattle.arm2_effect.specs.declared.step_end.Kind.TheVariants.{Stopped}
use Rattle.arm2_effect.specs.declared.step_end.Why.{Why}
use Rattle.arm2_exec.specs.declared.machine.Input.{Input}
use Rattle.arm2_exec.specs.declared.machine.Ran.{Ran}
use Rattle.arm2_exec.specs.declared.machine.Stepped.{Stepped}
use Rattle.arm2_exec.specs.State.{State}
use Rattle.arm2_exec.specs.Step.{Step}
use Rattle.arm2_exec.specs.Run.{with_one_step, why_stopped}
use Rattle.arm2_exec.proofs.RunLemmas.{goes, why_of}
use Rattle.arm2_exec.proofs.StepLemmas.{goes_on}
use Rattle.asm_text.specs.Appended.{Appends}
use Rattle.text_trace.specs.TraceText.{Goes}
use Rattle.json_trace.specs.StepLine.{IsStepLine, StepFacts}
use Rattle.json_trace.specs.Records.{RecordsFrom, RecordsRun, facts_of, ticks_passed}

goes_some : (k : Kind) (w : Why) (goes_on : Type 0) → k ≡ Stopped w → Goes (why_stopped k) [] goes_on
goes_some k w goes_on is = subst (λ (why : Option Why). Goes why [] goes_on) (sym (why_of k w is)) refl

goes_none : (k : Kind) (text : List ℕ) (goes_on : Type 0) → ((w : Why) → k ≡ Stopped w → ⊥) → goes_on
    → Goes (why_stopped k) text goes_on
goes_none k text goes_on not_stopped more =
    subst (λ (why : Option Why). Goes why text goes_on) (sym (goes k not_stopped)) more

-- ## What was recorded, whatever follows

abbrev pub RecordedSoFar : State → List Input → Ran → State → List Input → List ℕ → Type 0
RecordedSoFar start inputs ran now left text =
    (more : List ℕ) → RecordsFrom ran.steps ran.elapsed now left more → RecordsRun start inputs (text ++ more)

-- a front of the inputs, whatever would follow it
abbrev pub FrontRecorded : State → List Input → (n : ℕ) → Ran → State → List ℕ → Type 0
FrontRecorded start inputs n ran now text =
    (tail : List Input) → RecordedSoFar start (take n inputs ++ tail) ran now tail text

-- the last input was taken
pub records_end : (start : State) (inputs : List Input) (ran : Ran) (now : State) (left : List Input) (old new : List ℕ)
    → Appends (RecordedSoFar start inputs ran now left) old new → left ≡ [] → Appends (RecordsRun start inputs) old new
records_end start inputs ran now left old new adds none = (
  adds.0,
  subst (RecordsRun start inputs) (append-nil adds.0)
      (adds.1 [] (subst (λ (is : List Input). RecordsFrom ran.steps ran.elapsed now is []) (sym none) refl)),
  adds.2,
)

-- ## A step from here

module _ (start : State) (inputs : List Input) (ran : Ran) (now next : State) (left rest : List Input) (i : Input)
    (stepped : Stepped) (at_hand : left ≡ i ∷ rest) (step : Step now i stepped next) (facts : StepFacts)
    (are : facts ≡ facts_of ran.steps ran.elapsed now i stepped next step) where
  line_of : (line : List ℕ) → IsStepLine facts line → IsStepLine (facts_of ran.steps ran.elapsed now i stepped next step) line
  line_of line is = subst (λ (f : StepFacts). IsStepLine f line) are is

  -- it stopped
  pub records_stop : (w : Why) (old mid new : List ℕ) → stepped.kind ≡ Stopped w
      → Appends (RecordedSoFar start inputs ran now left) old mid → Appends (IsStepLine facts) mid new
      → Appends (RecordsRun start inputs) old new
  records_stop w old mid new is adds line =
      let ends =
      goes_some stepped.kind w
      (RecordsFrom (ran.steps + 1) (ran.elapsed + ticks_passed now.profile.burst i stepped) next rest []) is in
      let here : RecordsFrom ran.steps ran.elapsed now (i ∷ rest) line.0 =
      (stepped, next, step, line.0, line_of line.0 line.1, [], ends, sym (append-nil line.0)) in (
        adds.0 ++ line.0,
        adds.1 line.0 (subst (λ (is : List Input). RecordsFrom ran.steps ran.elapsed now is line.0) (sym at_hand) here),
        line.2 ∙ ap (λ (t : List ℕ). t ++ line.0) adds.2 ∙ append_assoc old adds.0 line.0,
      )

  ticks_are : ((w : Why) → stepped.kind ≡ Stopped w → ⊥)
      → ticks_passed now.profile.burst i stepped ≡ stepped.ticks + now.profile.burst * i.bursts
  ticks_are not_stopped = rw (goes_on stepped.kind not_stopped) refl

  recorded_goes : (text line : List ℕ) → ((w : Why) → stepped.kind ≡ Stopped w → ⊥)
      → RecordedSoFar start inputs ran now left text → IsStepLine facts line
      → RecordedSoFar start inputs (with_one_step now.profile.burst i stepped ran) next rest (text ++ line)
  recorded_goes text line not_stopped so_far is = λ more records.
      let passed = ticks_passed now.profile.burst i stepped in
      let rest_of : RecordsFrom (ran.steps + 1) (ran.elapsed + passed) next rest more =
      subst (λ (t : ℕ). RecordsFrom (ran.steps + 1) (ran.elapsed + t) next rest more) (sym (ticks_are not_stopped)) records in
      let ends =
      goes_none stepped.kind more (RecordsFrom (ran.steps + 1) (ran.elapsed + passed) next rest more) not_stopped rest_of in
      let here : RecordsFrom ran.steps ran.elapsed now (i ∷ rest) (line ++ more) =
      (stepped, next, step, line, line_of line is, more, ends, refl) in
      subst (RecordsRun start inputs) (sym (append_assoc text line more))
      (so_far (line ++ more) (subst (λ (is : List Input). RecordsFrom ran.steps ran.elapsed now is (line ++ more)) (sym at_hand) here))

  -- it went on
  pub records_go : (old mid new : List ℕ) → ((w : Why) → stepped.kind ≡ Stopped w → ⊥)
      → Appends (RecordedSoFar start inputs ran now left) old mid → Appends (IsStepLine facts) mid new
      → Appends (RecordedSoFar start inputs (with_one_step now.profile.burst i stepped ran) next rest) old new
  records_go old mid new not_stopped adds line = (
    adds.0 ++ line.0,
    recorded_goes adds.0 line.0 not_stopped adds.1 line.1,
    line.2 ∙ ap (λ (t : List ℕ). t ++ line.0) adds.2 ∙ append_assoc old adds.0 line.0,
  )

-- ## A step from a front

pub front_recorded : (start : State) (inputs : List Input) (n : ℕ) (ran : Ran) (now next : State) (i : Input)
    (stepped : Stepped) → take (n + 1) inputs ≡ take n inputs ++ i ∷ [] → (step : Step now i stepped next) (facts : StepFacts)
    → facts ≡ facts_of ran.steps ran.elapsed now i stepped next step → ((w : Why) → stepped.kind ≡ Stopped w → ⊥)
    → (old mid new : List ℕ) → Appends (FrontRecorded start inputs n ran now) old mid → Appends (IsStepLine facts) mid new
    → Appends (FrontRecorded start inputs (n + 1) (with_one_step now.profile.burst i stepped ran) next) old new
front_recorded start inputs n ran now next i stepped here step facts are not_stopped old mid new adds line =
    let text = adds.0 ++ line.0 in
    let longer = λ (tail : List Input).
    sym (append_assoc (take n inputs) (i ∷ []) tail) ∙ ap (λ (front : List Input). front ++ tail) (sym here) in
    let after = with_one_step now.profile.burst i stepped ran in
    let recorded : FrontRecorded start inputs (n + 1) after next text = λ tail.
    subst (λ (all : List Input). RecordedSoFar start all after next tail text) (longer tail)
    (recorded_goes start (take n inputs ++ i ∷ tail) ran now next (i ∷ tail) tail i stepped refl step facts are adds.0 line.0
    not_stopped (adds.1 (i ∷ tail)) line.1) in
    (text, recorded, line.2 ∙ ap (λ (t : List ℕ). t ++ line.0) adds.2 ∙ append_assoc old adds.0 line.0)
