-- The three ways in which a report ends.
use Rattle.std.proofs.Common.{◌≡◌, ◌≢◌, ◌⊎◌, ℕ, List, Option, Result, Ok, Err, refl, sym, subst, inr}
use Rattle.std.specs.Prelude.{IfOk, IfErr}
use Rattle.std.specs.Result.{IsErrAnd}
use Rattle.std.specs.Io.KnownBytes.{Appends}
use Rattle.handlers.specs.Answers.{Answers, PrintsOrRefuses}
use Rattle.outputs.specs.Output.{TakesFront, FailsSince}
use Rattle.handlers.specs.declared.fault.ReportFault.{ReportFault}
use Rattle.handlers.specs.declared.fault.ReportFault.TheVariants.{Memory, Device}

module _ {O T : Type 0} (taken : O → Option (List ℕ)) (failures : O → ℕ) (IsText : T → List ℕ → Type 0)
    (IsFine : Type 0) (IsFault : ReportFault → Type 0) where
  abbrev pub Ends : O → O → Result T ReportFault → Type 0
  Ends old new result = Answers taken failures IsText IsFine IsFault old new result

  -- before anything was written
  refused : (old : O) (e : ReportFault) → (e ≢ Device) × IsFault e
      → PrintsOrRefuses taken failures IsText IsFault old old (Err e)
  refused old e h = record {
    printed = tt;
    fault = h.1;
    quiet = λ other. refl;
    device = λ d. absurd (h.0 (cc d));
  }

  -- by a `?` before anything was written
  pub ends_early : (old : O) (r : Result T ReportFault) (e : ReportFault) → IsErrAnd r (λ x. x ≡ e)
      → (e ≢ Device) × IsFault e
      → (IfErr r (λ x. (x ≢ Device) × IsFault x) → IsFine → IfErr r (λ x. (x ≡ Memory) ⊎ (x ≡ Device)))
      → Ends old old r
  ends_early old (Ok x) e is h only = absurd is
  ends_early old (Err x) e is h only =
      let holds : (x ≢ Device) × IsFault x =
      subst (λ (f : ReportFault). (f ≢ Device) × IsFault f) (sym is) h in
      record { output = refused old x holds; accepted = tt; only = only holds }

  -- once all was written
  pub ends_with_text : (old new : O) (x : T) (text : List ℕ) → IsText x text → IsFine
      → Appends (taken old) (taken new) text → Ends old new (Ok x)
  ends_with_text old new x text is fine printed = record {
    output = record {
      printed = record { text = text; is_text = is; printed = printed };
      fault = tt;
      quiet = tt;
      device = λ d. cc d;
    };
    accepted = fine;
    only = λ a. tt;
  }

  -- within the text
  pub ends_failed : (old new : O) (x : T) (text : List ℕ) → IsText x text → IsFault Device
      → TakesFront (taken old) (taken new) text → FailsSince (failures old) (failures new)
      → Ends old new (Err Device)
  ends_failed old new x text is fails front failed = record {
    output = record {
      printed = tt;
      fault = fails;
      quiet = λ other. absurd (other refl);
      device = λ d. record { text = text; is_text = (x, is); taken = front; failed = failed };
    };
    accepted = tt;
    only = λ a. inr refl;
  }

  -- by what the output answered
  pub ends_printed : (old new : O) (x : T) (text : List ℕ) (r : Result T ReportFault) → IsText x text → IsFine
      → IsFault Device → IfOk r (λ y. (y ≡ x) × Appends (taken old) (taken new) text)
      → IfErr r (λ e. (e ≡ Device)
      × (TakesFront (taken old) (taken new) text × FailsSince (failures old) (failures new))) → Ends old new r
  ends_printed old new x text (Ok y) is fine fails ok err =
      subst (λ (z : T). Ends old new (Ok z)) (sym ok.0) (ends_with_text old new x text is fine ok.1)
  ends_printed old new x text (Err e) is fine fails ok err =
      subst (λ (f : ReportFault). Ends old new (Err f)) (sym err.0)
      (ends_failed old new x text is fails err.1.0 err.1.1)
