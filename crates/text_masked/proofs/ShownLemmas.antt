-- What an edge shows, by the instruction of its word.
use Rattle.std.proofs.Common.{◌≡◌, ◌∙◌, ℕ, ◌<◌, ◌^◌, true, false, Option, Some, None, refl, sym, ap, subst}
use Rattle.std.specs.Prelude.{is_some, unwrap_or}
use Rattle.std.proofs.lemmas.Bool.{both_ways}
use Rattle.arm2_decode.specs.declared.instr.Instr.{Instr}
use Rattle.arm2_effect.specs.Operands.{word_of}
use Rattle.arm2_effect.proofs.Words.{shifted_is}
use Rattle.control_flow.specs.Places.{place_address}
use Rattle.control_flow.specs.declared.edges.Edge.{Edge}
use Rattle.image.specs.Image.{Words}
use Rattle.shifter.specs.declared.shifts.Shifted.{Shifted}
use Rattle.shifter.specs.Shifts.{BitsAndCarry, Has}
use Rattle.text_explained.specs.Leaving.{is_done}
use Rattle.text_masked.specs.declared.shown.Mask.{Mask}
use Rattle.text_masked.specs.declared.shown.Shown.{Shown}
use Rattle.text_masked.specs.declared.shown.Shown.TheVariants.{Nothing, Sets, Clears}
use Rattle.text_masked.specs.Held.{is_set, is_set_after}
use Rattle.text_masked.specs.Shown.{ClearsMask, IsShownOn, SetsMask, Shows, shown_by}
use Rattle.word_shapes.specs.Words.{HasInstr}

-- the number of a shifted word is that of its bits
pub value_is : (s : Shifted) (wanted : BitsAndCarry) → s.value < 2 ^ 32 → Has s wanted → s.value ≡ word_of wanted.bits
value_is s wanted below has = ap (λ (x : Shifted). x.value) (shifted_is s wanted below has)

module _ (words : Words) (mask : Mask) (e : Edge) where
  pub none_shown : (SetsMask words mask e → ⊥) → (ClearsMask words mask e → ⊥) → IsShownOn words mask e Nothing
  none_shown unset unclear = record {
    sets = (λ s. absurd (unset s), λ is. absurd (both_ways true (sym (ap is_set is)) refl));
    clears = (λ s. absurd (unclear s), λ is. absurd (both_ways true (ap (λ (t : Shown). is_set_after true t) is) refl));
  }

  pub skipped : is_done e.label ≡ false → IsShownOn words mask e Nothing
  skipped out = none_shown (λ s. both_ways (is_done e.label) out s.done) (λ s. both_ways (is_done e.label) out s.done)

  pub no_instr : (at : ℕ) → at ≡ place_address e.from → ((i : Instr) → HasInstr words at i → None ≡ Some i) → IsShownOn words mask e Nothing
  no_instr at at_is none =
      let not_any : (shown : Shown) → Shows words mask shown e → ⊥ = λ shown s. let is : None ≡ Some s.instr = none s.instr (subst (λ (a : ℕ). HasInstr words a s.instr) (sym at_is) s.has) in both_ways true (sym (ap (λ (o : Option Instr). is_some o) is)) refl in
      none_shown (not_any Sets) (not_any Clears)

  module _ (at : ℕ) (at_is : at ≡ place_address e.from) (done : is_done e.label ≡ true) (instr : Instr) (has : HasInstr words at instr) (only : (i : Instr) → HasInstr words at i → Some instr ≡ Some i) (r : Shown) (r_is : r ≡ shown_by mask instr.operation) where
    of_one : (shown : Shown) → Shows words mask shown e → r ≡ shown
    of_one shown s =
        let some : Some instr ≡ Some s.instr = only s.instr (subst (λ (a : ℕ). HasInstr words a s.instr) (sym at_is) s.has) in
        let same : instr ≡ s.instr = ap (λ (o : Option Instr). unwrap_or o instr) some in
        r_is ∙ ap (λ (i : Instr). shown_by mask i.operation) same ∙ s.is

    one_of : (shown : Shown) → r ≡ shown → Shows words mask shown e
    one_of shown is = record { done = done; instr = instr; has = subst (λ (a : ℕ). HasInstr words a instr) at_is has; is = sym r_is ∙ is }

    pub shown_of : IsShownOn words mask e r
    shown_of = record { sets = (of_one Sets, one_of Sets); clears = (of_one Clears, one_of Clears) }
