-- What holds of the instruction at an address, if there is one.
use Rattle.std.proofs.Common.{◌≡◌, ◌∙◌, ℕ, Bool, true, false, Some, None, sym, subst}
use Rattle.std.specs.Prelude.{◌↔◌, IsTrue}
use Rattle.std.proofs.lemmas.Bool.{false≢true}
use Rattle.arm2_decode.specs.declared.instr.Instr.{Instr}
use Rattle.image.specs.Image.{Words}
use Rattle.word_shapes.specs.Words.{HasInstr}

module _ (Holds : Instr → Type 0) (image : Words) (a : ℕ) where
  abbrev pub IsOne : Type 0
  IsOne = (i : Instr) × HasInstr image a i × Holds i

  pub instr_decides : (i : Instr) (b : Bool) → HasInstr image a i → ((j : Instr) → HasInstr image a j → Some i ≡ Some j) → IsTrue b ↔ Holds i → IsTrue b ↔ IsOne
  instr_decides i b has only decides = (
    λ e. (i, has, decides.0 e),
    λ h. let both : Some i ≡ Some h.0 = only h.0 h.1 in let one : h.0 ≡ i = cc in decides.1 (subst Holds one h.2),
  )

  pub none_decides : ((j : Instr) → HasInstr image a j → None ≡ Some j) → IsTrue false ↔ IsOne
  none_decides none = (
    λ e. absurd (false≢true e),
    λ h. absurd (let both : None ≡ Some h.0 = none h.0 h.1 in cc),
  )

-- by a test
module _ (is : Instr → Bool) (image : Words) (a : ℕ) where
  pub word_decides : (i : Instr) (b : Bool) → HasInstr image a i → ((j : Instr) → HasInstr image a j → Some i ≡ Some j) → b ≡ is i → IsTrue b ↔ IsOne (λ j. is j ≡ true) image a
  word_decides i b has only same = instr_decides (λ j. is j ≡ true) image a i b has only (λ e. sym same ∙ e, λ h. same ∙ h)

  pub none_shaped : ((j : Instr) → HasInstr image a j → None ≡ Some j) → IsTrue false ↔ IsOne (λ j. is j ≡ true) image a
  none_shaped = none_decides (λ j. is j ≡ true) image a
