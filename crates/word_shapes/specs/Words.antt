-- Instructions of an image, and their shapes.
use Rattle.std.specs.Prelude.{◌≡◌, ℕ, Bool, true, Some}
use Rattle.arm2_decode.specs.Table.{Means}
use Rattle.arm2_decode.specs.declared.instr.Instr.{Instr}
use Rattle.arm2_decode.specs.declared.instr.Operation.{Operation}
use Rattle.image.specs.Image.{Words, word_of}
use Rattle.word_shapes.specs.Shapes.{may_do}

-- the image has a word at the address, which is this instruction
pub record HasInstr (words : Words) (at : ℕ) (i : Instr) : Type 0 where
  pub word : ℕ
  pub has_word : word_of words at ≡ Some word
  pub means : Means word i

-- the image has an instruction at the address, and its operation has the shape
abbrev pub HasShape : (Operation → Bool) → Words → ℕ → Type 0
HasShape shape words at = (i : Instr) × HasInstr words at i × (shape i.operation ≡ true)

-- and it may be carried out
abbrev pub MayDo : (Operation → Bool) → Words → ℕ → Type 0
MayDo shape words at = (i : Instr) × HasInstr words at i × (may_do shape i ≡ true)
