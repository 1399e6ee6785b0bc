-- Words that may be done, as far as is stated of them.
use Rattle.std.specs.Prelude.{◌≡◌, ℕ, Bool, true, ◌&&◌}
use Rattle.arm2_decode.specs.declared.instr.Instr.{Instr}
use Rattle.arm2_decode.specs.declared.instr.Operation.{Operation}
use Rattle.control_flow.specs.Edges.{may_do}
use Rattle.image.specs.Image.{Words}
use Rattle.statement.specs.Stated.{Stated, taken_at}
use Rattle.word_shapes.specs.Words.{HasInstr}

-- the instruction at the address may be done, by its condition and what is stated of it
abbrev pub may_be_done : Stated → ℕ → Instr → Bool
may_be_done st a i = may_do i.cond (taken_at st a)

-- and its operation has the shape
abbrev pub may_do_shape : (Operation → Bool) → Stated → ℕ → Instr → Bool
may_do_shape shape st a i = may_be_done st a i && shape i.operation

-- the image has such an instruction at the address
abbrev pub MayDoShape : (Operation → Bool) → Words → Stated → ℕ → Type 0
MayDoShape shape image st a = (i : Instr) × HasInstr image a i × (may_do_shape shape st a i ≡ true)
