-- What a call that prints one text answers.
use Rattle.std.specs.Prelude.{◌≡◌, ◌≢◌, ◌⊎◌, ℕ, List, Option, Result, Err, OnOk, IfOk, IfErr}
use Rattle.std.specs.Io.KnownBytes.{Appends}
use Rattle.outputs.specs.Output.{TakesFront, FailsSince}
use Rattle.handlers.specs.declared.fault.ReportFault.{ReportFault}
use Rattle.handlers.specs.declared.fault.ReportFault.TheVariants.{Memory, Device}

-- the output took what it held before, and then one such text
pub record Prints (IsText : List ℕ → Type 0) (old new : Option (List ℕ)) : Type 0 where
  pub text : List ℕ
  pub is_text : IsText text
  pub printed : Appends old new text

-- the output took a front of such a text, and failed
pub record FailsWithin (IsText : List ℕ → Type 0) (old new : Option (List ℕ))
    (before after : ℕ) : Type 0 where
  pub text : List ℕ
  pub is_text : IsText text
  pub taken : TakesFront old new text
  pub failed : FailsSince before after

-- a text of one of the answers
abbrev pub OfSome : {T : Type 0} → (T → List ℕ → Type 0) → List ℕ → Type 0
OfSome {T} IsText text = (x : T) × IsText x text

-- one text of the answer is printed, or refused, with the output before it and after it: each refusal where
-- it holds, and nothing written before a refusal other than Device
pub record PrintsOrRefuses {O T : Type 0} (taken : O → Option (List ℕ)) (failures : O → ℕ)
    (IsText : T → List ℕ → Type 0) (IsFault : ReportFault → Type 0)
    (old new : O) (result : Result T ReportFault) : Type 0 where
  pub printed : IfOk result (λ x. Prints (IsText x) (taken old) (taken new))
  pub fault : IfErr result IsFault
  pub quiet : IfErr result (λ e. e ≢ Device → new ≡ old)
  pub device : result ≡ Err Device
      → FailsWithin (OfSome IsText) (taken old) (taken new) (failures old) (failures new)

-- a call prints one text or refuses: Ok only for what is accepted, and for that no refusal but Memory and
-- Device
pub record Answers {O T : Type 0} (taken : O → Option (List ℕ)) (failures : O → ℕ)
    (IsText : T → List ℕ → Type 0) (IsFine : Type 0) (IsFault : ReportFault → Type 0)
    (old new : O) (result : Result T ReportFault) : Type 0 where
  pub output : PrintsOrRefuses taken failures IsText IsFault old new result
  pub accepted : OnOk result IsFine
  pub only : IsFine → IfErr result (λ e. (e ≡ Memory) ⊎ (e ≡ Device))
