-- The shape of the one instruction at an address.
use Rattle.std.proofs.Common.{◌≡◌, ◌∙◌, ℕ, Bool, false, true, Option, Some, None, MatchOption, ap, sym}
use Rattle.std.specs.Prelude.{◌↔◌, IfSome, IsTrue}
use Rattle.std.proofs.lemmas.Bool.{false≢true}
use Rattle.arm2_decode.specs.declared.instr.Instr.{Instr}
use Rattle.arm2_decode.specs.declared.instr.Operation.{Operation}
use Rattle.image.specs.Image.{Words}
use Rattle.word_shapes.specs.Shapes.{may_do}
use Rattle.word_shapes.specs.Words.{HasInstr, HasShape, MayDo}

instr_decides : (is : Instr → Bool) (words : Words) (at : ℕ) (found : Option Instr) (b : Bool)
    → IfSome found (HasInstr words at) → ((i : Instr) → HasInstr words at i → found ≡ Some i)
    → MatchOption found (b ≡ false) (λ i. b ≡ is i) → IsTrue b ↔ ((i : Instr) × HasInstr words at i × (is i ≡ true))
instr_decides is words at (Some i) b has only same = (
  λ e. (i, has, sym same ∙ e),
  λ h. let both : Some i ≡ Some h.0 = only h.0 h.1 in
      let one : i ≡ h.0 = cc in
      same ∙ ap is one ∙ h.2,
)
instr_decides is words at None b none only same = (
  λ e. absurd (false≢true (sym same ∙ e)),
  λ h. absurd (let both : None ≡ Some h.0 = only h.0 h.1 in cc),
)

pub shape_decides : (shape : Operation → Bool) (words : Words) (at : ℕ) (found : Option Instr) (b : Bool)
    → IfSome found (HasInstr words at) → ((i : Instr) → HasInstr words at i → found ≡ Some i)
    → MatchOption found (b ≡ false) (λ i. b ≡ shape i.operation) → IsTrue b ↔ HasShape shape words at
shape_decides shape = instr_decides (λ i. shape i.operation)

pub may_decides : (shape : Operation → Bool) (words : Words) (at : ℕ) (found : Option Instr) (b : Bool)
    → IfSome found (HasInstr words at) → ((i : Instr) → HasInstr words at i → found ≡ Some i)
    → MatchOption found (b ≡ false) (λ i. b ≡ may_do shape i) → IsTrue b ↔ MayDo shape words at
may_decides shape = instr_decides (may_do shape)
