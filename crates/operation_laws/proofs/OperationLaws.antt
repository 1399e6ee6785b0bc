-- Any instruction.
use Rattle.std.proofs.Common.{◌≡◌, ℕ, suc, ◌==◌, ◌&&◌, Bool, true, false, cond, refl, arith}
use Rattle.arm2_decode.specs.Allowed.{bit_of, is_bad_base, is_bad_compare, single_clash}
use Rattle.arm2_decode.specs.Names.{is_pc, opcode_number, register_number}
use Rattle.arm2_decode.specs.Transfers.{writes_base}
use Rattle.arm2_decode.specs.declared.instr.Operation.TheVariants as row
use Rattle.arm2_decode.specs.declared.names.Register.{Register}
use Rattle.arm2_effect.specs.declared.exceptions.Vector.TheVariants as vector
use Rattle.arm2_effect.specs.Operands.{rotated_byte, shifted_by_amount, shifted_by_register}
use Rattle.arm2_effect.specs.Operations.{branch_effect, data_immediate_effect, data_register_effect, data_register_shift_effect, operation_effect}
use Rattle.arm2_transfer.specs.Single.{of_immediate, of_register}
use Rattle.operation_laws.specs.Leaves.{BranchesPlainly, OperationLaw, SkipLaw}
use Rattle.operation_laws.proofs.BlockLaws.{block_left}
use Rattle.operation_laws.proofs.EffectLaws.{branch_left, data_left, multiply_left, skipped_left}
use Rattle.operation_laws.proofs.SingleLaws.{not_taken, single_left}

-- ## What the words of the table rule out

not_refused : (b : Bool) (m n : ℕ) → ◌≡◌ {A = ℕ} (cond b (suc m) n) 0 → b ≡ false
not_refused true m n e = absurd (omega (arith, e))
not_refused false m n e = refl

else_refused : (b : Bool) (m n : ℕ) → ◌≡◌ {A = ℕ} (cond b (suc m) n) 0 → n ≡ 0
else_refused true m n e = absurd (omega (arith, e))
else_refused false m n e = e

base_by : (is_base before write_back : Bool)
    → (is_base && writes_base (bit_of before == 1) (bit_of write_back == 1)) ≡ false
    → writes_base before write_back ≡ true → is_base ≡ false
base_by false before write_back h w = refl
base_by true false true h w = absurd cc
base_by true false false h w = absurd cc
base_by true true true h w = absurd cc
base_by true true false h w = absurd cc

base_other : (before byte write_back load : Bool) (rn rd : Register)
    → single_clash (bit_of before) (bit_of byte) (bit_of write_back) (bit_of load) (register_number rn)
    (register_number rd) ≡ 0
    → writes_base before write_back ≡ true → is_pc rn ≡ false
base_other before byte write_back load rn rd none writes =
    base_by (is_pc rn) before write_back
    (not_refused (is_bad_base (bit_of before) (bit_of write_back) (register_number rn)) 5 _ none) writes

pub operation_law : OperationLaw
unfolding operation_effect data_register_effect data_register_shift_effect data_immediate_effect
operation_law (row.Multiply x) port regs bus long plain = (multiply_left regs long x, refl)
operation_law (row.DataRegister x) port regs bus long plain =
    let sets = not_refused (is_bad_compare (opcode_number x.opcode) (bit_of x.sets_flags)) 0 0 x.allocated in
    (data_left regs long x.opcode x.sets_flags x.rn x.rd 8 (shifted_by_amount x.shift x.amount x.rm regs) sets, refl)
operation_law (row.DataRegisterShift x) port regs bus long plain =
    let sets = not_refused (is_bad_compare (opcode_number x.opcode) (bit_of x.sets_flags)) 0 _ x.allocated in
    (data_left regs long x.opcode x.sets_flags x.rn x.rd 12 (shifted_by_register x.shift x.rs x.rm regs) sets, refl)
operation_law (row.DataImmediate x) port regs bus long plain =
    let sets = not_refused (is_bad_compare (opcode_number x.opcode) (bit_of x.sets_flags)) 0 0 x.allocated in
    (data_left regs long x.opcode x.sets_flags x.rn x.rd 8 (rotated_byte x.value x.rotation regs) sets, refl)
operation_law (row.SingleImmediate x) port regs bus long plain =
    single_left (of_immediate x) port regs bus long
    (base_other x.before x.byte x.write_back x.load x.rn x.rd x.allocated) plain
operation_law (row.SingleRegister x) port regs bus long plain =
    single_left (of_register x regs) port regs bus long
    (base_other x.before x.byte x.write_back x.load x.rn x.rd
    (else_refused (register_number x.rm == 15) 4 _ x.allocated)) plain
operation_law (row.Block x) port regs bus long plain = block_left x port regs bus long plain
operation_law (row.Branch x) port regs bus long plain = (branch_left regs long x, refl)
operation_law (row.Swi x) port regs bus long plain = not_taken vector.Swi regs bus plain
operation_law (row.UndefinedTransfer x) port regs bus long plain = not_taken vector.Undefined regs bus plain
operation_law (row.CoprocessorTransfer x) port regs bus long plain = not_taken vector.Undefined regs bus plain
operation_law (row.Coprocessor x) port regs bus long plain = not_taken vector.Undefined regs bus plain

pub skip_law : SkipLaw
skip_law = skipped_left

pub branches_plainly : BranchesPlainly
unfolding operation_effect branch_effect
branches_plainly x port before bus = refl
