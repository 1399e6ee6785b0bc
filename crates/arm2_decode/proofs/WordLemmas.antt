-- Words as the sums of their fields.
use Rattle.std.proofs.Common.{ℕ, ◌+◌, ◌*◌, ◌^◌, ◌<◌, ◌≡◌, Bool, true, false, arith, ◌∷◌}
use Rattle.arm2_decode.specs.declared.instr.Operation.{Operation}
use Rattle.arm2_decode.specs.declared.instr.Operation.TheVariants.{Multiply, DataRegister, DataRegisterShift, DataImmediate, SingleImmediate, SingleRegister, Block, Branch, Swi, UndefinedTransfer, CoprocessorTransfer, Coprocessor}
use Rattle.arm2_decode.specs.Allowed.{bit_of}
use Rattle.arm2_decode.specs.Table.{row_of, operands, below_condition, IsOfRow}
use Rattle.arm2_decode.proofs.NameLemmas.{opcode_fits, register_fits, shift_fits}
use Rattle.arm2_decode.proofs.RowLemmas.{multiply_fits, data_register_fits, data_register_shift_fits, data_immediate_fits, single_immediate_fits, single_register_fits, block_fits, branch_fits, swi_fits, undefined_transfer_fits, coprocessor_transfer_fits, coprocessor_fits}

pub bit_fits : (b : Bool) → bit_of b < 2 ^ 1
bit_fits true = omega arith
bit_fits false = omega arith

ruleset fits = (arith, bit_fits, opcode_fits, register_fits, shift_fits)

-- the word of an operation's row with its fields
pub word_fits : (w c : ℕ) (o : Operation) → c < 2 ^ 4 → w ≡ c * 2 ^ 28 + below_condition o → IsOfRow (row_of o) w (c ∷ operands o)
word_fits w c (Multiply x) c_fits whole = multiply_fits w c _ _ _ _ _ _ (omega fits) (omega fits) (omega fits) (omega fits) (omega fits) (omega fits) (omega fits) (omega fits) (omega fits)
word_fits w c (DataRegister x) c_fits whole = data_register_fits w c _ _ _ _ _ _ _ (omega fits) (omega fits) (omega fits) (omega fits) (omega fits) (omega fits) (omega fits) (omega fits) (omega fits) (omega fits)
word_fits w c (DataRegisterShift x) c_fits whole = data_register_shift_fits w c _ _ _ _ _ _ _ (omega fits) (omega fits) (omega fits) (omega fits) (omega fits) (omega fits) (omega fits) (omega fits) (omega fits) (omega fits) (omega fits)
word_fits w c (DataImmediate x) c_fits whole = data_immediate_fits w c _ _ _ _ _ _ (omega fits) (omega fits) (omega fits) (omega fits) (omega fits) (omega fits) (omega fits) (omega fits)
word_fits w c (SingleImmediate x) c_fits whole = single_immediate_fits w c _ _ _ _ _ _ _ _ (omega fits) (omega fits) (omega fits) (omega fits) (omega fits) (omega fits) (omega fits) (omega fits) (omega fits) (omega fits)
word_fits w c (SingleRegister x) c_fits whole = single_register_fits w c _ _ _ _ _ _ _ _ _ _ (omega fits) (omega fits) (omega fits) (omega fits) (omega fits) (omega fits) (omega fits) (omega fits) (omega fits) (omega fits) (omega fits) (omega fits) (omega fits)
word_fits w c (Block x) c_fits whole = block_fits w c _ _ _ _ _ _ _ (omega fits) (omega fits) (omega fits) (omega fits) (omega fits) (omega fits) (omega fits) (omega fits) (omega fits)
word_fits w c (Branch x) c_fits whole = branch_fits w c _ _ (omega fits) (omega fits) (omega fits) (omega fits)
word_fits w c (Swi x) c_fits whole = swi_fits w c _ (omega fits) (omega fits) (omega fits)
word_fits w c (UndefinedTransfer x) c_fits whole = undefined_transfer_fits w c _ _ (omega fits) (omega fits) (omega fits) (omega fits) (omega fits)
word_fits w c (CoprocessorTransfer x) c_fits whole = coprocessor_transfer_fits w c _ (omega fits) (omega fits) (omega fits)
word_fits w c (Coprocessor x) c_fits whole = coprocessor_fits w c _ (omega fits) (omega fits) (omega fits)

-- it has the condition above it
pub below_fits : (o : Operation) → below_condition o < 2 ^ 28
below_fits (Multiply x) = omega fits
below_fits (DataRegister x) = omega fits
below_fits (DataRegisterShift x) = omega fits
below_fits (DataImmediate x) = omega fits
below_fits (SingleImmediate x) = omega fits
below_fits (SingleRegister x) = omega fits
below_fits (Block x) = omega fits
below_fits (Branch x) = omega fits
below_fits (Swi x) = omega fits
below_fits (UndefinedTransfer x) = omega fits
below_fits (CoprocessorTransfer x) = omega fits
below_fits (Coprocessor x) = omega fits
