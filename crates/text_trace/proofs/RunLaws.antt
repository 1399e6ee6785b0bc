-- A run and its text, step after step.
use Rattle.std.proofs.Common.{◌≡◌, ◌∙◌, ℕ, ◌+◌, List, [], ◌∷◌, ◌++◌, Option, None, Result, Ok, Err}
use Rattle.std.proofs.Common.{OnErr, refl, sym, ap, append_assoc, drop, subst, take}
use Rattle.std.proofs.lemmas.List.{append-nil, take-append-drop}
use Rattle.arm2_effect.specs.declared.step_end.Kind.{Kind}
use Rattle.arm2_effect.specs.declared.step_end.Kind.TheVariants.{Stopped}
use Rattle.arm2_effect.specs.declared.step_end.Why.{Why}
use Rattle.arm2_exec.specs.declared.machine.Input.{Input}
use Rattle.arm2_exec.specs.declared.machine.Ran.{Ran}
use Rattle.arm2_exec.specs.State.{State}
use Rattle.arm2_exec.specs.Step.{Step}
use Rattle.arm2_exec.specs.Run.{Runs, with_one_step, why_stopped}
use Rattle.arm2_exec.proofs.RunLemmas.{SoFar, ends_with, goes, more_steps, why_of}
use Rattle.arm2_exec.specs.declared.machine.Traced.{Traced}
use Rattle.asm_text.specs.Appended.{Appends}
use Rattle.text_trace.specs.TraceText.{Goes, IsTraceLine, RefusedRun, TracesRun}
use Rattle.arm2_exec.specs.Step.{traced_word}

-- ## The text of a step

abbrev TextOn : Traced → State → List Input → List ℕ → Type 0
TextOn traced next rest text = (line : List ℕ) × IsTraceLine traced line × (more : List ℕ)
    × TracesRun next rest more × (text ≡ line ++ more)

goes_some : (k : Kind) (w : Why) (goes_on : Type 0) → k ≡ Stopped w → Goes (why_stopped k) [] goes_on
goes_some k w goes_on is = subst (λ (why : Option Why). Goes why [] goes_on) (sym (why_of k w is)) refl

goes_none : (k : Kind) (text : List ℕ) (goes_on : Type 0) → ((w : Why) → k ≡ Stopped w → ⊥) → goes_on
    → Goes (why_stopped k) text goes_on
goes_none k text goes_on not_stopped more =
    subst (λ (why : Option Why). Goes why text goes_on) (sym (goes k not_stopped)) more

-- ## What was printed, whatever follows

abbrev pub PrintedSoFar : State → List Input → State → List Input → List ℕ → Type 0
PrintedSoFar start inputs now left text =
    (more : List ℕ) → TracesRun now left more → TracesRun start inputs (text ++ more)

-- nothing more is printed
printed_whole : (start : State) (inputs : List Input) (now : State) (left : List Input) (old new : List ℕ)
    → Appends (PrintedSoFar start inputs now left) old new → TracesRun now left []
    → Appends (TracesRun start inputs) old new
printed_whole start inputs now left old new adds rest =
    (adds.0, subst (TracesRun start inputs) (append-nil adds.0) (adds.1 [] rest), adds.2)

-- the last input was taken
pub text_ends : (start : State) (inputs : List Input) (now : State) (left : List Input) (old new : List ℕ)
    → Appends (PrintedSoFar start inputs now left) old new → left ≡ [] → Appends (TracesRun start inputs) old new
text_ends start inputs now left old new adds none =
    printed_whole start inputs now left old new adds
    (subst (λ (is : List Input). TracesRun now is []) (sym none) refl)

-- ## A step from here

module _ (start : State) (inputs : List Input) (now next : State) (left rest : List Input) (i : Input)
    (traced : Traced)
    (at_hand : left ≡ i ∷ rest) (step : Step now i traced.stepped next) where
  -- it stopped
  pub text_stops : (w : Why) (old new : List ℕ) → traced.word ≡ traced_word now i
      → traced.stepped.kind ≡ Stopped w → Appends (PrintedSoFar start inputs now left) old new
      → Appends (TracesRun start inputs) old new
  text_stops w old new word is adds =
      let ends = goes_some traced.stepped.kind w (TextOn traced next rest []) is in
      printed_whole start inputs now left old new adds
      (subst (λ (is : List Input). TracesRun now is []) (sym at_hand) (traced, next, step, word, ends))

  -- it went on
  pub printed_goes : (text line : List ℕ) → traced.word ≡ traced_word now i
      → ((w : Why) → traced.stepped.kind ≡ Stopped w → ⊥) → PrintedSoFar start inputs now left text
      → IsTraceLine traced line → PrintedSoFar start inputs next rest (text ++ line)
  printed_goes text line word not_stopped so_far is = λ more stepped.
      let on = TextOn traced next rest (line ++ more) in
      let ends =
      goes_none traced.stepped.kind (line ++ more) on not_stopped (line, is, more, stepped, refl) in
      let here =
      subst (λ (is : List Input). TracesRun now is (line ++ more)) (sym at_hand)
      (traced, next, step, word, ends) in
      subst (TracesRun start inputs) (sym (append_assoc text line more)) (so_far (line ++ more) here)

  pub text_goes : (old mid new : List ℕ) → traced.word ≡ traced_word now i
      → ((w : Why) → traced.stepped.kind ≡ Stopped w → ⊥) → Appends (PrintedSoFar start inputs now left) old mid
      → Appends (IsTraceLine traced) mid new
      → Appends (PrintedSoFar start inputs next rest) old new
  text_goes old mid new word not_stopped adds line = (
    adds.0 ++ line.0,
    printed_goes adds.0 line.0 word not_stopped adds.1 line.1,
    line.2 ∙ ap (λ (t : List ℕ). t ++ line.0) adds.2 ∙ append_assoc old adds.0 line.0,
  )

-- ## A front of the inputs, whatever would follow it

abbrev pub FrontRuns : State → List Input → (n : ℕ) → Ran → State → Type 0
FrontRuns start inputs n ran now = (tail : List Input) → SoFar start (take n inputs ++ tail) ran now tail

abbrev pub FrontPrinted : State → List Input → (n : ℕ) → State → List ℕ → Type 0
FrontPrinted start inputs n now text =
    (tail : List Input) → PrintedSoFar start (take n inputs ++ tail) now tail text

module _ (start : State) (inputs : List Input) (n : ℕ) (now next : State) (i : Input) (traced : Traced)
    (here : take (n + 1) inputs ≡ take n inputs ++ i ∷ []) (step : Step now i traced.stepped next)
    (not_stopped : (w : Why) → traced.stepped.kind ≡ Stopped w → ⊥) where
  longer : (tail : List Input) → take n inputs ++ i ∷ tail ≡ take (n + 1) inputs ++ tail
  longer tail =
      sym (append_assoc (take n inputs) (i ∷ []) tail) ∙ ap (λ (front : List Input). front ++ tail) (sym here)

  pub front_runs : (ran : Ran) → FrontRuns start inputs n ran now
      → FrontRuns start inputs (n + 1) (with_one_step now.profile.burst i traced.stepped ran) next
  front_runs ran so_far = λ tail.
      let all = take n inputs ++ i ∷ tail in
      let goes =
      more_steps start all ran now next (i ∷ tail) tail i traced.stepped
      (so_far (i ∷ tail)) refl step not_stopped in
      subst (λ (all : List Input). SoFar start all (with_one_step now.profile.burst i traced.stepped ran) next tail) (longer tail) goes

  pub front_printed : (old mid new : List ℕ) → traced.word ≡ traced_word now i
      → Appends (FrontPrinted start inputs n now) old mid → Appends (IsTraceLine traced) mid new
      → Appends (FrontPrinted start inputs (n + 1) next) old new
  front_printed old mid new word adds line =
      let text = adds.0 ++ line.0 in
      let stepped : FrontPrinted start inputs (n + 1) next text = λ tail.
      let all = take n inputs ++ i ∷ tail in
      let law =
      printed_goes start all now next (i ∷ tail) tail i traced refl step adds.0 line.0 word not_stopped in
      subst (λ (all : List Input). PrintedSoFar start all next tail text) (longer tail)
      (law (adds.1 (i ∷ tail)) line.1) in
      let is = line.2 ∙ ap (λ (t : List ℕ). t ++ line.0) adds.2 ∙ append_assoc old adds.0 line.0 in
      (text, stepped, is)

  -- a run that nothing stopped
  abbrev going : Ran → Ran
  going ran = record { steps = ran.steps; ticks = ran.ticks; elapsed = ran.elapsed; stopped = None }

  -- the line was refused
  pub run_refused : (rest : List Input) (ran : Ran) (old mid new : List ℕ)
      → drop n inputs ≡ i ∷ rest → FrontRuns start inputs n ran now
      → Appends (FrontPrinted start inputs n now) old mid → new ≡ mid → RefusedRun start inputs next old new
  run_refused rest ran old mid new left runs stepped kept = record {
    done = take n inputs;
    input = i;
    rest = rest;
    are = sym (take-append-drop n inputs) ∙ ap (λ (after : List Input). take n inputs ++ after) left;
    ran = going ran;
    between = now;
    runs =
        subst (λ (all : List Input). Runs start all (going ran) now) (append-nil (take n inputs))
        (ends_with start (take n inputs ++ []) ran now now [] None (runs []) (refl, refl));
    goes_on = refl;
    stepped = traced.stepped;
    step = step;
    not_stopped = goes traced.stepped.kind not_stopped;
    text = (
      stepped.0,
      subst (λ (all : List Input). TracesRun start all stepped.0) (append-nil (take n inputs))
          (subst (TracesRun start (take n inputs ++ [])) (append-nil stepped.0) (stepped.1 [] [] refl)),
      kept ∙ stepped.2,
    );
  }

pub on_err : {T E : Type 0} (r : Result T E) (P : Type 0) → P → OnErr r P
on_err (Ok x) P p = tt
on_err (Err e) P p = p
