use Rattle.arm2_decode.specs.declared.instr.Operation.TheVariants as row
use Rattle.arm2_transfer.specs.Operations.{operation_moved}
use Rattle.operation_laws.proofs.OperationLaws.{operation_law}
use Rattle.arm2_effect.specs.Operands.{shifted_by_amount}
use Rattle.known_words.proofs.stepping.after_register.Goals as goal

pub returns : goal.returns
returns c = λ entry turns regs port bus long at plain holds.
    let x = c.args.x in
    let o = row.DataRegister x in
    c.after_data.ensures entry turns regs (operation_moved o port regs bus).regs
    (shifted_by_amount x.shift x.amount x.rm regs) at (c.shifted_of-operand.ensures entry turns regs at holds)
    (operation_law o port regs bus long plain).0 holds
