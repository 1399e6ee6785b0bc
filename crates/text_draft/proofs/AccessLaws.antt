-- The bases of loads and stores.
use Rattle.std.proofs.Common.{◌≡◌, ◌∙◌, ℕ, Bool, true, false, Option, Some, None, refl, sym, ap, subst}
use Rattle.std.specs.Prelude.{◌&&◌, IfSome, if◌then◌else◌, is_some, not, option_map}
use Rattle.arm2_decode.specs.Names.{is_never}
use Rattle.arm2_decode.specs.Writers.{is_transfer, moved}
use Rattle.arm2_decode.specs.declared.instr.Instr.{Instr}
use Rattle.arm2_decode.specs.declared.names.Register.{Register}
use Rattle.arm2_decode.specs.declared.transfers.Moved.{Moved}
use Rattle.image.specs.Image.{Words}
use Rattle.text_draft.specs.Accesses.{HasBase, base_used}
use Rattle.word_shapes.specs.Words.{HasInstr, MayDo}

module _ (words : Words) (at : ℕ) where
  module _ (i : Instr) (has : HasInstr words at i) (only : (j : Instr) → HasInstr words at j → Some i ≡ Some j) where
    pub base_some : (found : Option Register) → found ≡ base_used i → IfSome found (HasBase words at)
    base_some None is = tt
    base_some (Some register) is = (i, has, sym is)

    pub base_only : (found : Option Register) → found ≡ base_used i → (register : Register) → HasBase words at register → found ≡ Some register
    base_only found is register h =
        let both : Some i ≡ Some h.0 = only h.0 h.1 in
        let same : i ≡ h.0 = cc in
        is ∙ ap base_used same ∙ h.2

  pub base_none : ((j : Instr) → HasInstr words at j → None ≡ Some j) → (register : Register) → HasBase words at register → None ≡ Some register
  base_none none register h = absurd (let both : None ≡ Some h.0 = none h.0 h.1 in cc)

  transfers : (never : Bool) (m : Option Moved) (register : Register) → (if never then None else option_map (λ (x : Moved). x.base) m) ≡ Some register
      → (not never && is_some m) ≡ true
  transfers true m register is = absurd (let e : None ≡ Some register = is in cc)
  transfers false None register is = absurd (let e : None ≡ Some register = is in cc)
  transfers false (Some m) register is = refl

  -- a word with a base loads or stores, and one that does has a base
  pub base_transfers : (register : Register) → HasBase words at register → MayDo is_transfer words at
  base_transfers register h = (h.0, h.1, transfers (is_never h.0.cond) (moved h.0.operation) register h.2)

  based : (never : Bool) (m : Option Moved) → (not never && is_some m) ≡ true
      → (register : Register) × ((if never then None else option_map (λ (x : Moved). x.base) m) ≡ Some register)
  based true m is = absurd (let e : false ≡ true = is in cc)
  based false None is = absurd (let e : false ≡ true = is in cc)
  based false (Some m) is = (m.base, refl)

  pub transfers_base : MayDo is_transfer words at → (register : Register) × HasBase words at register
  transfers_base h =
      let b = based (is_never h.0.cond) (moved h.0.operation) h.2 in
      (b.0, (h.0, h.1, b.1))
