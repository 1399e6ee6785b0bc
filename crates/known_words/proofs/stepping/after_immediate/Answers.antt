use Rattle.std.proofs.Common.{sym, subst}
use Rattle.arm2_decode.specs.declared.instr.Operation.TheVariants as row
use Rattle.arm2_transfer.specs.Operations.{operation_moved}
use Rattle.operation_laws.proofs.OperationLaws.{operation_law}
use Rattle.arm2_effect.specs.Operands.{rotated_byte}
use Rattle.known_words.specs.Known.{IsKnown}
use Rattle.known_words.proofs.stepping.after_immediate.Goals as goal

pub returns : goal.returns
returns c = λ entry turns regs port bus long at plain holds.
    let x = c.args.x in
    let o = row.DataImmediate x in
    let operand =
    subst (IsKnown entry turns c.exactly-operand.result) (sym (c.rotated.ensures regs))
    (c.exactly-operand.ensures entry turns) in
    c.after_data.ensures entry turns regs (operation_moved o port regs bus).regs (rotated_byte x.value x.rotation regs) at
    operand (operation_law o port regs bus long plain).0 holds
