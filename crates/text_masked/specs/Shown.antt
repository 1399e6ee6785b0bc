-- Words that show of a mask of R15 whether it is set or clear after them: TEQP PC,#n (VL86C010 data
-- sheet, data processing and registers). TEQ with R15 for Rd writes the PSR by the bits of its result; of R15
-- as first operand the address bits alone count, so the PSR becomes that of n. In User mode TEQP changes
-- neither mask, and its word counts here all the same.
use Rattle.std.specs.Prelude.{◌≡◌, ◌↔◌, ℕ, ◌*◌, ◌&&◌, Bool, true, false, if◌then◌else◌}
use Rattle.arm2_decode.specs.Names.{is_pc}
use Rattle.arm2_decode.specs.declared.instr.DataImmediate.{DataImmediate}
use Rattle.arm2_decode.specs.declared.instr.Instr.{Instr}
use Rattle.arm2_decode.specs.declared.instr.Operation.{Operation}
use Rattle.arm2_decode.specs.declared.instr.Operation.TheVariants as operation
use Rattle.arm2_decode.specs.declared.names.Opcode.{Opcode}
use Rattle.arm2_decode.specs.declared.names.Opcode.TheVariants.{Teq}
use Rattle.arm2_decode.specs.declared.names.Shift.TheVariants.{Ror}
use Rattle.arm2_effect.specs.Operands.{word_of}
use Rattle.arm2_effect.specs.ProgramCounter.{is_fiq_masked, is_irq_masked}
use Rattle.control_flow.specs.Places.{place_address}
use Rattle.control_flow.specs.declared.edges.Edge.{Edge}
use Rattle.image.specs.Image.{Words}
use Rattle.shifter.specs.Shifts.{by_register}
use Rattle.shifter.specs.Word.{word_bits}
use Rattle.text_explained.specs.Leaving.{is_done}
use Rattle.text_masked.specs.declared.shown.Mask.{Mask}
use Rattle.text_masked.specs.declared.shown.Mask.TheVariants.{Irq, Fiq}
use Rattle.text_masked.specs.declared.shown.Shown.{Shown}
use Rattle.text_masked.specs.declared.shown.Shown.TheVariants.{Sets, Clears, Nothing}
use Rattle.word_shapes.specs.Words.{HasInstr}

-- ## Words

-- the bit of the mask in R15
abbrev pub is_masked : Mask → ℕ → Bool
is_masked Irq r = is_irq_masked r
is_masked Fiq r = is_fiq_masked r

abbrev pub is_teq : Opcode → Bool
is_teq Teq = true
is_teq _ = false

-- TEQP PC,#n
abbrev pub writes_status : DataImmediate → Bool
writes_status x = is_teq x.opcode && (is_pc x.rn && is_pc x.rd)

-- n: a byte, rotated right by twice the rotation
abbrev pub operand_of : DataImmediate → ℕ
operand_of x = word_of (by_register Ror (2 * x.rotation) (word_bits x.value) false).bits

abbrev pub shown_by_status : Mask → ℕ → Shown
shown_by_status mask status = if is_masked mask status then Sets else Clears

abbrev pub shown_by_data : Mask → DataImmediate → Shown
shown_by_data mask x = if writes_status x then shown_by_status mask (operand_of x) else Nothing

-- what an operation shows, where it is carried out
abbrev pub shown_by : Mask → Operation → Shown
shown_by mask (operation.DataImmediate x) = shown_by_data mask x
shown_by mask (operation.Multiply x) = Nothing
shown_by mask (operation.DataRegister x) = Nothing
shown_by mask (operation.DataRegisterShift x) = Nothing
shown_by mask (operation.SingleImmediate x) = Nothing
shown_by mask (operation.SingleRegister x) = Nothing
shown_by mask (operation.Block x) = Nothing
shown_by mask (operation.Branch x) = Nothing
shown_by mask (operation.Swi x) = Nothing
shown_by mask (operation.UndefinedTransfer x) = Nothing
shown_by mask (operation.CoprocessorTransfer x) = Nothing
shown_by mask (operation.Coprocessor x) = Nothing

-- ## Edges

-- on the edge the word of the image is carried out, and shows that
pub record Shows (words : Words) (mask : Mask) (shown : Shown) (e : Edge) : Type 0 where
  pub done : is_done e.label ≡ true
  pub instr : Instr
  pub has : HasInstr words (place_address e.from) instr
  pub is : shown_by mask instr.operation ≡ shown

-- the edge sets the mask, or clears it
abbrev pub SetsMask : Words → Mask → Edge → Type 0
SetsMask words mask e = Shows words mask Sets e

abbrev pub ClearsMask : Words → Mask → Edge → Type 0
ClearsMask words mask e = Shows words mask Clears e

-- what the edge shows
pub record IsShownOn (words : Words) (mask : Mask) (e : Edge) (shown : Shown) : Type 0 where
  pub sets : SetsMask words mask e ↔ (shown ≡ Sets)
  pub clears : ClearsMask words mask e ↔ (shown ≡ Clears)
