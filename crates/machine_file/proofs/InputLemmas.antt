-- The inputs up to a step.
use Rattle.std.proofs.Common.{◌≡◌, ℕ, ◌+◌, ◌<◌, ◌≤◌, List, [], ◌∷◌, ◌++◌, length, Option, Some, None, inl, inr, refl, sym, ap, ◌∙◌, subst, arith, length-append}
use Rattle.std.specs.Prelude.{◌⊎◌, slice_index_or, unwrap_or}
use Rattle.std.proofs.lemmas.Bool.{cases_lt}
use Rattle.std.proofs.lemmas.List.{get_or_append_left, get_or_push}
use Rattle.arm2_exec.specs.declared.machine.Input.{Input}
use Rattle.ioc.specs.declared.lines.Lines.{Lines}
use Rattle.machine_file.specs.Inputs.{IsInput, IsLast, bursts_of_step, lines_of_step, port_of_step}
use Rattle.machine_file.specs.Stated.{Schedule}

-- ## What was stated last

module _ {A : Type 0} (given : ℕ → Option A) (start : A) where
  pub last_none : IsLast given start 0 start
  last_none = inr (λ (j : ℕ) h. absurd (omega (arith, h)), refl)

  given_now : (end : ℕ) (value : A) → given end ≡ Some value → IsLast given start (end + 1) value
  given_now end value is = inl (end, omega arith, is, λ (j : ℕ) past below. absurd (omega (arith, past, below)))

  nothing_now : (end : ℕ) (value : A) → IsLast given start end value → given end ≡ None → IsLast given start (end + 1) value
  nothing_now end value (inl w) none = inl (w.0, omega (arith, w.1), w.2, λ (j : ℕ) past below. still j (cases_lt j end) below (w.3 j past))
    where
      still : (j : ℕ) → (j < end) ⊎ (end ≤ j) → j < end + 1 → (j < end → given j ≡ None) → given j ≡ None
      still j (inl lt) below old = old lt
      still j (inr ge) below old = let same : j ≡ end = omega arith in ap given same ∙ none
  nothing_now end value (inr w) none = inr (λ (j : ℕ) below. still j (cases_lt j end) below, w.1)
    where
      still : (j : ℕ) → (j < end) ⊎ (end ≤ j) → j < end + 1 → given j ≡ None
      still j (inl lt) below = w.0 j lt
      still j (inr ge) below = let same : j ≡ end = omega arith in ap given same ∙ none

  -- one more step
  pub last_step : (end : ℕ) (value next : A) → IsLast given start end value → next ≡ unwrap_or (given end) value → IsLast given start (end + 1) next
  last_step end value next before is = by_given (given end) refl is
    where
      by_given : (o : Option A) → given end ≡ o → next ≡ unwrap_or o value → IsLast given start (end + 1) next
      by_given None none same = subst (λ v. IsLast given start (end + 1) v) (sym same) (nothing_now end value before none)
      by_given (Some v) some same = subst (λ u. IsLast given start (end + 1) u) (sym same) (given_now end v some)

-- ## One more input

pub record AreSoFar (s : Schedule) (step : ℕ) (lines : Lines) (port : ℕ) (inputs : List Input) : Type 0 where
  pub count : length inputs ≡ step
  pub each : (k : ℕ) (input : Input) → k < length inputs → input ≡ slice_index_or inputs k input → IsInput s k input
  pub lines_last : IsLast (lines_of_step s) (record { 0 = 0 }) step lines
  pub port_last : IsLast (port_of_step s) s.port step port

module _ (P : ℕ → Input → Type 0) (xs : List Input) (x : Input) where
  each_push : ((k : ℕ) (y : Input) → k < length xs → y ≡ slice_index_or xs k y → P k y) → P (length xs) x → (k : ℕ) (y : Input) → k < length (xs ++ x ∷ []) → y ≡ slice_index_or (xs ++ x ∷ []) k y → P k y
  each_push old new k y lt is = by_place (cases_lt k (length xs))
    where
      by_place : (k < length xs) ⊎ (length xs ≤ k) → P k y
      by_place (inl below) = old k y below (is ∙ get_or_append_left xs (x ∷ []) y k below)
      by_place (inr above) =
          let at : length xs ≡ k = omega (arith, length-append xs (x ∷ [])) in
          let same : x ≡ y = sym (is ∙ get_or_push xs x y k at) in
          subst (P k) same (subst (λ (n : ℕ). P n x) at new)

pub so_far_none : (s : Schedule) (lines : Lines) (port : ℕ) (inputs : List Input) → inputs ≡ [] → lines.0 ≡ 0 → port ≡ s.port → AreSoFar s 0 lines port inputs
so_far_none s lines port inputs none dark same =
    let zero : length inputs ≡ 0 = ap length none in
    let start : Lines = record { 0 = 0 } in
    let whole : start ≡ lines = λ i. record { 0 = sym dark i } in
    record {
      count = zero;
      each = λ k input lt is. absurd (omega (arith, lt, zero));
      lines_last = subst (λ l. IsLast (lines_of_step s) start 0 l) whole (last_none (lines_of_step s) start);
      port_last = subst (λ (p : ℕ). IsLast (port_of_step s) s.port 0 p) (sym same) (last_none (port_of_step s) s.port);
    }

pub so_far_step : (s : Schedule) (step : ℕ) (lines next_lines : Lines) (port next_port bursts : ℕ) (inputs longer : List Input) → AreSoFar s step lines port inputs → next_lines ≡ unwrap_or (lines_of_step s step) lines → next_port ≡ unwrap_or (port_of_step s step) port → bursts ≡ bursts_of_step s step → longer ≡ inputs ++ record { bursts = bursts; lines = next_lines; port = next_port } ∷ [] → AreSoFar s (step + 1) next_lines next_port longer
so_far_step s step lines next_lines port next_port bursts inputs longer before lines_are port_is bursts_are pushed =
    let input : Input = record { bursts = bursts; lines = next_lines; port = next_port } in
    let new_lines = last_step (lines_of_step s) (record { 0 = 0 }) step lines next_lines before.lines_last lines_are in
    let new_port = last_step (port_of_step s) s.port step port next_port before.port_last port_is in
    let is : IsInput s step input = record { bursts = bursts_are; lines = new_lines; port = new_port } in
    let whole : AreSoFar s (step + 1) next_lines next_port (inputs ++ input ∷ []) =
    record {
      count = length-append inputs (input ∷ []) ∙ ap (λ (n : ℕ). n + 1) before.count;
      each = each_push (IsInput s) inputs input before.each (subst (λ (n : ℕ). IsInput s n input) (sym before.count) is);
      lines_last = new_lines;
      port_last = new_port;
    } in
    subst (AreSoFar s (step + 1) next_lines next_port) (sym pushed) whole
