-- Which classes rest on their words alone.
use Rattle.std.proofs.Common.{◌≡◌, ◌∙◌, ℕ, Bool, Some, None, inl, inr, ap, subst, sym}
use Rattle.std.specs.Prelude.{IsTrue}
use Rattle.arm2_decode.specs.declared.instr.Instr.{Instr}
use Rattle.bus_ticks.specs.declared.profile.Class.{Class}
use Rattle.bus_ticks.specs.declared.profile.Class.TheVariants.{Any}
use Rattle.image.specs.Image.{Words}
use Rattle.text_draft.specs.Accesses.{IsByPc, RestsOnWord}
use Rattle.text_draft.specs.Rules.{is_same_class}
use Rattle.word_shapes.specs.Words.{HasInstr}
use Rattle.text_draft.proofs.TallyLaws.{own_class, same_class}

module _ (words : Words) (at : ℕ) (class : Class) (narrow : class ≡ Any → ⊥) where
  pub none_rests : ((i : Instr) → HasInstr words at i → None ≡ Some i) → RestsOnWord words at class → ⊥
  none_rests none (inl any) = narrow any
  none_rests none (inr h) = absurd (let no : None ≡ Some h.0 = none h.0 h.1 in cc no)

  module _ (i : Instr) (has : HasInstr words at i) (only : (j : Instr) → HasInstr words at j → Some i ≡ Some j) where
    own : RestsOnWord words at class → IsByPc at i.operation class
    own (inl any) = absurd (narrow any)
    own (inr h) =
        let both : Some i ≡ Some h.0 = only h.0 h.1 in
        let same : i ≡ h.0 = cc both in
        subst (λ (j : Instr). IsByPc at j.operation class) (sym same) h.2

    pub unshown_rests : ((shown : Class) → IsByPc at i.operation shown → None ≡ Some shown) → RestsOnWord words at class → ⊥
    unshown_rests none rests = absurd (let no : None ≡ Some class = none class (own rests) in cc no)

    pub shown_rests : (shown : Class) (result : Bool) → IsByPc at i.operation shown → ((k : Class) → IsByPc at i.operation k → Some shown ≡ Some k)
        → result ≡ is_same_class shown class → (IsTrue result → RestsOnWord words at class) × (RestsOnWord words at class → IsTrue result)
    shown_rests shown result by_pc alone is = (
      λ yes. inr (i, has, subst (IsByPc at i.operation) (same_class shown class (sym is ∙ yes)) by_pc),
      λ rests.
          let both : Some shown ≡ Some class = alone class (own rests) in
          let same : shown ≡ class = cc both in
          is ∙ ap (λ k. is_same_class k class) same ∙ own_class class,
    )
