use Rattle.arm2_decode.specs.declared.instr.Operation.TheVariants as row
use Rattle.arm2_transfer.specs.Operations.{operation_moved}
use Rattle.operation_laws.proofs.OperationLaws.{operation_law}
use Rattle.arm2_effect.specs.Operands.{shifted_by_register}
use Rattle.known_words.proofs.stepping.after_register_shift.Goals as goal

pub returns : goal.returns
returns c = λ entry turns regs port bus long at plain holds.
    let x = c.args.x in
    let o = row.DataRegisterShift x in
    c.after_data.ensures entry turns regs (operation_moved o port regs bus).regs
    (shifted_by_register x.shift x.rs x.rm regs) at tt (operation_law o port regs bus long plain).0 holds
