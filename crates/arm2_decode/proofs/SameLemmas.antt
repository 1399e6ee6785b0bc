-- Operations with the same numbers in their fields are the same.
use Rattle.std.proofs.Common.{ℕ, ◌^◌, ◌<◌, ◌≡◌, Bool, true, false, refl, ap, arith, List}
use Rattle.std.specs.Prelude.{slice_index}
use mathlib.Core.HLevel.{is_prop→PathP}
use Rattle.std.proofs.Props.{props}
use Rattle.arm2_decode.specs.declared.instr.Operation.{Operation}
use Rattle.arm2_decode.specs.declared.instr.Operation.TheVariants.{Multiply, DataRegister, DataRegisterShift, DataImmediate, SingleImmediate, SingleRegister, Block, Branch, Swi, UndefinedTransfer, CoprocessorTransfer, Coprocessor}
use Rattle.arm2_decode.specs.declared.instr.Multiply.{Multiply as MultiplyFields}
use Rattle.arm2_decode.specs.declared.instr.DataRegister.{DataRegister as DataRegisterFields}
use Rattle.arm2_decode.specs.declared.instr.DataRegisterShift.{DataRegisterShift as DataRegisterShiftFields}
use Rattle.arm2_decode.specs.declared.instr.DataImmediate.{DataImmediate as DataImmediateFields}
use Rattle.arm2_decode.specs.declared.instr.SingleImmediate.{SingleImmediate as SingleImmediateFields}
use Rattle.arm2_decode.specs.declared.instr.SingleRegister.{SingleRegister as SingleRegisterFields}
use Rattle.arm2_decode.specs.declared.instr.Block.{Block as BlockFields}
use Rattle.arm2_decode.specs.declared.instr.Branch.{Branch as BranchFields}
use Rattle.arm2_decode.specs.declared.instr.Swi.{Swi as SwiFields}
use Rattle.arm2_decode.specs.declared.instr.UndefinedTransfer.{UndefinedTransfer as UndefinedTransferFields}
use Rattle.arm2_decode.specs.declared.instr.CoprocessorTransfer.{CoprocessorTransfer as CoprocessorTransferFields}
use Rattle.arm2_decode.specs.declared.instr.Coprocessor.{Coprocessor as CoprocessorFields}
use Rattle.arm2_decode.specs.Names.{opcode_number, register_number}
use Rattle.arm2_decode.specs.Allowed.{bit_of, block_clash, data_clash, data_shift_clash, multiply_clash, single_clash, single_register_clash}
use Rattle.arm2_decode.specs.Table.{operands}
use Rattle.arm2_decode.proofs.NameLemmas.{same_opcode, same_register, same_shift}

same_bit : (x y : Bool) → bit_of x ≡ bit_of y → x ≡ y
same_bit true true e = refl
same_bit false false e = refl
same_bit true false e = absurd (omega arith)
same_bit false true e = absurd (omega arith)

-- the fields of a struct make it: its facts have one proof each
same_multiply : (x y : MultiplyFields) → x.accumulate ≡ y.accumulate → x.sets_flags ≡ y.sets_flags → x.rd ≡ y.rd → x.rn ≡ y.rn → x.rs ≡ y.rs → x.rm ≡ y.rm → x ≡ y
same_multiply x y p0 p1 p2 p3 p4 p5 = λ i. record {
  accumulate = p0 i;
  sets_flags = p1 i;
  rd = p2 i;
  rn = p3 i;
  rs = p4 i;
  rm = p5 i;
  allocated = is_prop→PathP (λ j. multiply_clash (bit_of (p0 j)) (register_number (p2 j)) (register_number (p3 j)) (register_number (p4 j)) (register_number (p5 j)) ≡ 0) (λ j. hlevel props) x.allocated y.allocated i;
}

same_data_register : (x y : DataRegisterFields) → x.opcode ≡ y.opcode → x.sets_flags ≡ y.sets_flags → x.rn ≡ y.rn → x.rd ≡ y.rd → x.amount ≡ y.amount → x.shift ≡ y.shift → x.rm ≡ y.rm → x ≡ y
same_data_register x y p0 p1 p2 p3 p4 p5 p6 = λ i. record {
  opcode = p0 i;
  sets_flags = p1 i;
  rn = p2 i;
  rd = p3 i;
  amount = p4 i;
  shift = p5 i;
  rm = p6 i;
  allocated = is_prop→PathP (λ j. data_clash (opcode_number (p0 j)) (bit_of (p1 j)) ≡ 0) (λ j. hlevel props) x.allocated y.allocated i;
  amount_fits = is_prop→PathP (λ j. p4 j < 2 ^ 5) (λ j. hlevel props) x.amount_fits y.amount_fits i;
}

same_data_register_shift : (x y : DataRegisterShiftFields) → x.opcode ≡ y.opcode → x.sets_flags ≡ y.sets_flags → x.rn ≡ y.rn → x.rd ≡ y.rd → x.rs ≡ y.rs → x.shift ≡ y.shift → x.rm ≡ y.rm → x ≡ y
same_data_register_shift x y p0 p1 p2 p3 p4 p5 p6 = λ i. record {
  opcode = p0 i;
  sets_flags = p1 i;
  rn = p2 i;
  rd = p3 i;
  rs = p4 i;
  shift = p5 i;
  rm = p6 i;
  allocated = is_prop→PathP (λ j. data_shift_clash (opcode_number (p0 j)) (bit_of (p1 j)) (register_number (p4 j)) ≡ 0) (λ j. hlevel props) x.allocated y.allocated i;
}

same_data_immediate : (x y : DataImmediateFields) → x.opcode ≡ y.opcode → x.sets_flags ≡ y.sets_flags → x.rn ≡ y.rn → x.rd ≡ y.rd → x.rotation ≡ y.rotation → x.value ≡ y.value → x ≡ y
same_data_immediate x y p0 p1 p2 p3 p4 p5 = λ i. record {
  opcode = p0 i;
  sets_flags = p1 i;
  rn = p2 i;
  rd = p3 i;
  rotation = p4 i;
  value = p5 i;
  allocated = is_prop→PathP (λ j. data_clash (opcode_number (p0 j)) (bit_of (p1 j)) ≡ 0) (λ j. hlevel props) x.allocated y.allocated i;
  rotation_fits = is_prop→PathP (λ j. p4 j < 2 ^ 4) (λ j. hlevel props) x.rotation_fits y.rotation_fits i;
  value_fits = is_prop→PathP (λ j. p5 j < 2 ^ 8) (λ j. hlevel props) x.value_fits y.value_fits i;
}

same_single_immediate : (x y : SingleImmediateFields) → x.before ≡ y.before → x.up ≡ y.up → x.byte ≡ y.byte → x.write_back ≡ y.write_back → x.load ≡ y.load → x.rn ≡ y.rn → x.rd ≡ y.rd → x.offset ≡ y.offset → x ≡ y
same_single_immediate x y p0 p1 p2 p3 p4 p5 p6 p7 = λ i. record {
  before = p0 i;
  up = p1 i;
  byte = p2 i;
  write_back = p3 i;
  load = p4 i;
  rn = p5 i;
  rd = p6 i;
  offset = p7 i;
  allocated = is_prop→PathP (λ j. single_clash (bit_of (p0 j)) (bit_of (p2 j)) (bit_of (p3 j)) (bit_of (p4 j)) (register_number (p5 j)) (register_number (p6 j)) ≡ 0) (λ j. hlevel props) x.allocated y.allocated i;
  offset_fits = is_prop→PathP (λ j. p7 j < 2 ^ 12) (λ j. hlevel props) x.offset_fits y.offset_fits i;
}

same_single_register : (x y : SingleRegisterFields) → x.before ≡ y.before → x.up ≡ y.up → x.byte ≡ y.byte → x.write_back ≡ y.write_back → x.load ≡ y.load → x.rn ≡ y.rn → x.rd ≡ y.rd → x.amount ≡ y.amount → x.shift ≡ y.shift → x.rm ≡ y.rm → x ≡ y
same_single_register x y p0 p1 p2 p3 p4 p5 p6 p7 p8 p9 = λ i. record {
  before = p0 i;
  up = p1 i;
  byte = p2 i;
  write_back = p3 i;
  load = p4 i;
  rn = p5 i;
  rd = p6 i;
  amount = p7 i;
  shift = p8 i;
  rm = p9 i;
  allocated = is_prop→PathP (λ j. single_register_clash (bit_of (p0 j)) (bit_of (p2 j)) (bit_of (p3 j)) (bit_of (p4 j)) (register_number (p5 j)) (register_number (p6 j)) (register_number (p9 j)) ≡ 0) (λ j. hlevel props) x.allocated y.allocated i;
  amount_fits = is_prop→PathP (λ j. p7 j < 2 ^ 5) (λ j. hlevel props) x.amount_fits y.amount_fits i;
}

same_block : (x y : BlockFields) → x.before ≡ y.before → x.up ≡ y.up → x.user ≡ y.user → x.write_back ≡ y.write_back → x.load ≡ y.load → x.rn ≡ y.rn → x.list ≡ y.list → x ≡ y
same_block x y p0 p1 p2 p3 p4 p5 p6 = λ i. record {
  before = p0 i;
  up = p1 i;
  user = p2 i;
  write_back = p3 i;
  load = p4 i;
  rn = p5 i;
  list = p6 i;
  allocated = is_prop→PathP (λ j. block_clash (register_number (p5 j)) (p6 j) ≡ 0) (λ j. hlevel props) x.allocated y.allocated i;
  list_fits = is_prop→PathP (λ j. p6 j < 2 ^ 16) (λ j. hlevel props) x.list_fits y.list_fits i;
}

same_branch : (x y : BranchFields) → x.link ≡ y.link → x.offset ≡ y.offset → x ≡ y
same_branch x y p0 p1 = λ i. record {
  link = p0 i;
  offset = p1 i;
  offset_fits = is_prop→PathP (λ j. p1 j < 2 ^ 24) (λ j. hlevel props) x.offset_fits y.offset_fits i;
}

same_swi : (x y : SwiFields) → x.comment ≡ y.comment → x ≡ y
same_swi x y p0 = λ i. record {
  comment = p0 i;
  comment_fits = is_prop→PathP (λ j. p0 j < 2 ^ 24) (λ j. hlevel props) x.comment_fits y.comment_fits i;
}

same_undefined_transfer : (x y : UndefinedTransferFields) → x.high ≡ y.high → x.low ≡ y.low → x ≡ y
same_undefined_transfer x y p0 p1 = λ i. record {
  high = p0 i;
  low = p1 i;
  high_fits = is_prop→PathP (λ j. p0 j < 2 ^ 20) (λ j. hlevel props) x.high_fits y.high_fits i;
  low_fits = is_prop→PathP (λ j. p1 j < 2 ^ 4) (λ j. hlevel props) x.low_fits y.low_fits i;
}

same_coprocessor_transfer : (x y : CoprocessorTransferFields) → x.bits ≡ y.bits → x ≡ y
same_coprocessor_transfer x y p0 = λ i. record {
  bits = p0 i;
  bits_fits = is_prop→PathP (λ j. p0 j < 2 ^ 25) (λ j. hlevel props) x.bits_fits y.bits_fits i;
}

same_coprocessor : (x y : CoprocessorFields) → x.bits ≡ y.bits → x ≡ y
same_coprocessor x y p0 = λ i. record {
  bits = p0 i;
  bits_fits = is_prop→PathP (λ j. p0 j < 2 ^ 24) (λ j. hlevel props) x.bits_fits y.bits_fits i;
}

-- the place of an operation's row in the table
abbrev pub row_number : Operation → ℕ
row_number (Multiply x) = 0
row_number (DataRegister x) = 1
row_number (DataRegisterShift x) = 2
row_number (DataImmediate x) = 3
row_number (SingleImmediate x) = 4
row_number (SingleRegister x) = 5
row_number (Block x) = 6
row_number (Branch x) = 7
row_number (Swi x) = 8
row_number (UndefinedTransfer x) = 9
row_number (CoprocessorTransfer x) = 10
row_number (Coprocessor x) = 11

nth : (xs ys : List ℕ) (k : ℕ) → xs ≡ ys → slice_index xs k ≡ slice_index ys k
nth xs ys k e = ap (λ zs. slice_index zs k) e

-- two operations of one row with the same fields are one
pub same_operation : (x y : Operation) → row_number x ≡ row_number y → operands x ≡ operands y → x ≡ y
same_operation (Multiply x) (Multiply y) r e =
    ap Multiply (same_multiply x y (same_bit _ _ (nth _ _ 0 e)) (same_bit _ _ (nth _ _ 1 e)) (same_register _ _ (nth _ _ 2 e)) (same_register _ _ (nth _ _ 3 e)) (same_register _ _ (nth _ _ 4 e)) (same_register _ _ (nth _ _ 5 e)))
same_operation (DataRegister x) (DataRegister y) r e =
    ap DataRegister (same_data_register x y (same_opcode _ _ (nth _ _ 0 e)) (same_bit _ _ (nth _ _ 1 e)) (same_register _ _ (nth _ _ 2 e)) (same_register _ _ (nth _ _ 3 e)) (nth _ _ 4 e) (same_shift _ _ (nth _ _ 5 e)) (same_register _ _ (nth _ _ 6 e)))
same_operation (DataRegisterShift x) (DataRegisterShift y) r e =
    ap DataRegisterShift (same_data_register_shift x y (same_opcode _ _ (nth _ _ 0 e)) (same_bit _ _ (nth _ _ 1 e)) (same_register _ _ (nth _ _ 2 e)) (same_register _ _ (nth _ _ 3 e)) (same_register _ _ (nth _ _ 4 e)) (same_shift _ _ (nth _ _ 5 e)) (same_register _ _ (nth _ _ 6 e)))
same_operation (DataImmediate x) (DataImmediate y) r e =
    ap DataImmediate (same_data_immediate x y (same_opcode _ _ (nth _ _ 0 e)) (same_bit _ _ (nth _ _ 1 e)) (same_register _ _ (nth _ _ 2 e)) (same_register _ _ (nth _ _ 3 e)) (nth _ _ 4 e) (nth _ _ 5 e))
same_operation (SingleImmediate x) (SingleImmediate y) r e =
    ap SingleImmediate (same_single_immediate x y (same_bit _ _ (nth _ _ 0 e)) (same_bit _ _ (nth _ _ 1 e)) (same_bit _ _ (nth _ _ 2 e)) (same_bit _ _ (nth _ _ 3 e)) (same_bit _ _ (nth _ _ 4 e)) (same_register _ _ (nth _ _ 5 e)) (same_register _ _ (nth _ _ 6 e)) (nth _ _ 7 e))
same_operation (SingleRegister x) (SingleRegister y) r e =
    ap SingleRegister (same_single_register x y (same_bit _ _ (nth _ _ 0 e)) (same_bit _ _ (nth _ _ 1 e)) (same_bit _ _ (nth _ _ 2 e)) (same_bit _ _ (nth _ _ 3 e)) (same_bit _ _ (nth _ _ 4 e)) (same_register _ _ (nth _ _ 5 e)) (same_register _ _ (nth _ _ 6 e)) (nth _ _ 7 e) (same_shift _ _ (nth _ _ 8 e)) (same_register _ _ (nth _ _ 9 e)))
same_operation (Block x) (Block y) r e =
    ap Block (same_block x y (same_bit _ _ (nth _ _ 0 e)) (same_bit _ _ (nth _ _ 1 e)) (same_bit _ _ (nth _ _ 2 e)) (same_bit _ _ (nth _ _ 3 e)) (same_bit _ _ (nth _ _ 4 e)) (same_register _ _ (nth _ _ 5 e)) (nth _ _ 6 e))
same_operation (Branch x) (Branch y) r e =
    ap Branch (same_branch x y (same_bit _ _ (nth _ _ 0 e)) (nth _ _ 1 e))
same_operation (Swi x) (Swi y) r e =
    ap Swi (same_swi x y (nth _ _ 0 e))
same_operation (UndefinedTransfer x) (UndefinedTransfer y) r e =
    ap UndefinedTransfer (same_undefined_transfer x y (nth _ _ 0 e) (nth _ _ 1 e))
same_operation (CoprocessorTransfer x) (CoprocessorTransfer y) r e =
    ap CoprocessorTransfer (same_coprocessor_transfer x y (nth _ _ 0 e))
same_operation (Coprocessor x) (Coprocessor y) r e =
    ap Coprocessor (same_coprocessor x y (nth _ _ 0 e))
same_operation x y r e = absurd (omega (arith, r))
