-- Bytes on their way to an output, step by step.
use Rattle.std.proofs.Common.{◌≡◌, ◌∙◌, ℕ, ◌+◌, List, [], ◌++◌, true, false, true≢false, Option, Result, Ok, Err, OnOk, is_err, length, take, refl, sym, ap, subst, arith, append_assoc, append-nil}
use Rattle.std.proofs.KnownBytes.{Appends-nil, Appends-trans}
use Rattle.std.proofs.lemmas.List.{length-append, take-append-le}
use Rattle.std.specs.Io.KnownBytes.{Appends}
use Rattle.std.specs.Prelude.{OnErr}
use Rattle.std.proofs.Math.Seq.{take-append-add}
use Rattle.outputs.specs.OnTheWay.{Adds, Held, IsOnTheWay, IsSent}
use Rattle.outputs.specs.Output.{FailsSince, TakesFront}

-- a front of a text is one of the text with more after it
front_of_more : (a b : Option (List ℕ)) (text more : List ℕ) → TakesFront a b text → TakesFront a b (text ++ more)
front_of_more a b text more (n, few, took) = (
  n,
  omega (arith, few, length-append text more),
  subst (Appends a b) (sym (take-append-le n text more few)) took,
)

-- what was sent, and then a front of what comes after it
front_after : (a b c : Option (List ℕ)) (sent text : List ℕ) → Appends a b sent → TakesFront b c text → TakesFront a c (sent ++ text)
front_after a b c sent text took (n, few, front) = (
  length sent + n,
  omega (arith, few, length-append sent text),
  subst (Appends a c) (sym (take-append-add sent text n)) (Appends-trans a b c sent (take n text) took front),
)

module _ {O : Type 0} (taken : O → Option (List ℕ)) (failures : O → ℕ) where
  abbrev On : O → O → Held → List ℕ → Type 0
  On start now page text = IsOnTheWay taken failures start now page text

  going_on : (start now : O) (page : Held) (text : List ℕ) → page.failed ≡ false
      → IsSent (taken start) (taken now) page.bytes text × (failures now ≡ failures start) → On start now page text
  going_on start now page text goes is = record {
    going = λ g. is;
    stopped = λ s. absurd (true≢false (sym s ∙ goes));
  }

  stopped_on : (start now : O) (page : Held) (text : List ℕ) → page.failed ≡ true
      → TakesFront (taken start) (taken now) text × FailsSince (failures start) (failures now) → On start now page text
  stopped_on start now page text stops is = record {
    going = λ g. absurd (true≢false (sym stops ∙ g));
    stopped = λ s. is;
  }

  -- nothing is done after a failure
  pub adds_none : (out : O) (before after : Held) (bytes : List ℕ) → before.failed ≡ true → after.failed ≡ true
      → Adds taken failures out before out after bytes
  adds_none out before after bytes stops stopped start text on =
      let was = on.stopped stops in
      stopped_on start out after (text ++ bytes) stopped (front_of_more (taken start) (taken out) text bytes was.0, was.1)

  -- all that is held back and the bytes are sent
  pub adds_sent : (old new : O) (before after : Held) (bytes : List ℕ) → before.failed ≡ false → after.failed ≡ false
      → after.bytes ≡ [] → Appends (taken old) (taken new) (before.bytes ++ bytes) → failures new ≡ failures old
      → Adds taken failures old before new after bytes
  adds_sent old new before after bytes goes went empty took same start text on =
      let was = on.going goes in
      let all = was.0.sent ++ (before.bytes ++ bytes) in
      going_on start new after (text ++ bytes) went (
        record {
          sent = all;
          took = Appends-trans (taken start) (taken old) (taken new) was.0.sent (before.bytes ++ bytes) was.0.took took;
          whole = ap (λ t. t ++ bytes) was.0.whole ∙ append_assoc was.0.sent before.bytes bytes
              ∙ sym (append-nil all) ∙ ap (λ t. all ++ t) (sym empty);
        },
        same ∙ was.1,
      )

  -- the output failed while it was handed them
  pub adds_failed : (old new : O) (before after : Held) (bytes : List ℕ) → before.failed ≡ false → after.failed ≡ true
      → TakesFront (taken old) (taken new) (before.bytes ++ bytes) → FailsSince (failures old) (failures new)
      → Adds taken failures old before new after bytes
  adds_failed old new before after bytes goes stops front fails start text on =
      let was = on.going goes in
      let text_is : was.0.sent ++ (before.bytes ++ bytes) ≡ text ++ bytes =
      sym (append_assoc was.0.sent before.bytes bytes) ∙ ap (λ t. t ++ bytes) (sym was.0.whole) in
      stopped_on start new after (text ++ bytes) stops (
        subst (TakesFront (taken start) (taken new)) text_is
            (front_after (taken start) (taken old) (taken new) was.0.sent (before.bytes ++ bytes) was.0.took front),
        subst (λ n. FailsSince n (failures new)) was.1 fails,
      )

  -- by what the output answered to all of them
  pub adds_written : {T E : Type 0} (r : Result T E) (old new : O) (before after : Held) (bytes all : List ℕ)
      → before.failed ≡ false → after.failed ≡ is_err r → after.bytes ≡ [] → all ≡ before.bytes ++ bytes
      → OnOk r (Appends (taken old) (taken new) all) → OnOk r (failures new ≡ failures old)
      → OnErr r (TakesFront (taken old) (taken new) all) → OnErr r (FailsSince (failures old) (failures new))
      → Adds taken failures old before new after bytes
  adds_written (Ok x) old new before after bytes all goes by_answer empty are took same front fails =
      adds_sent old new before after bytes goes by_answer empty (subst (Appends (taken old) (taken new)) are took) same
  adds_written (Err e) old new before after bytes all goes by_answer empty are took same front fails =
      adds_failed old new before after bytes goes by_answer (subst (TakesFront (taken old) (taken new)) are front) fails

  -- one after the other
  pub adds_both : (a b c : O) (p q r : Held) (xs ys : List ℕ) → Adds taken failures a p b q xs
      → Adds taken failures b q c r ys → Adds taken failures a p c r (xs ++ ys)
  adds_both a b c p q r xs ys first second start text on =
      subst (On start c r) (append_assoc text xs ys) (second start (text ++ xs) (first start text on))

  -- the same bytes
  pub adds_same : (a b : O) (p q : Held) (xs ys : List ℕ) → xs ≡ ys → Adds taken failures a p b q xs
      → Adds taken failures a p b q ys
  adds_same a b p q xs ys e adds = subst (λ t. Adds taken failures a p b q t) e adds

  -- a page that is made of this output has nothing on its way
  pub on_from_start : (out : O) (page : Held) → page.bytes ≡ [] → page.failed ≡ false → On out out page []
  on_from_start out page empty goes =
      going_on out out page [] goes (record { sent = []; took = Appends-nil (taken out); whole = sym empty }, refl)
