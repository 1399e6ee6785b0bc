use Rattle.arm2_decode.specs.declared.instr.Operation.TheVariants as row
use Rattle.operation_laws.proofs.OperationLaws.{operation_law}
use Rattle.known_words.proofs.stepping.carried_on.Goals as goal

pub returns-in-Multiply : goal.returns-in-Multiply
returns-in-Multiply c = rw (c.in-Multiply.is) (c.after_multiply.ensures)

pub returns-in-DataRegister : goal.returns-in-DataRegister
returns-in-DataRegister c = rw (c.in-DataRegister.is) (c.after_register.ensures)

pub returns-in-DataRegisterShift : goal.returns-in-DataRegisterShift
returns-in-DataRegisterShift c = rw (c.in-DataRegisterShift.is) (c.after_register_shift.ensures)

pub returns-in-DataImmediate : goal.returns-in-DataImmediate
returns-in-DataImmediate c = rw (c.in-DataImmediate.is) (c.after_immediate.ensures)

pub returns-in-SingleImmediate : goal.returns-in-SingleImmediate
returns-in-SingleImmediate c = rw (c.in-SingleImmediate.is) (c.after_single_immediate.ensures)

pub returns-in-SingleRegister : goal.returns-in-SingleRegister
returns-in-SingleRegister c = rw (c.in-SingleRegister.is) (c.after_single_register.ensures)

pub returns-in-Block : goal.returns-in-Block
returns-in-Block c = rw (c.in-Block.is) (c.after_block.ensures)

pub returns-in-Branch : goal.returns-in-Branch
returns-in-Branch c = rw (c.in-Branch.is) (c.after_branch.ensures)

pub returns-in-Swi : goal.returns-in-Swi
returns-in-Swi c =
    rw (c.in-Swi.is)
    (λ entry turns regs port bus long at plain holds.
    absurd (operation_law (row.Swi c.in-Swi.field-0) port regs bus long plain))

pub returns-in-UndefinedTransfer : goal.returns-in-UndefinedTransfer
returns-in-UndefinedTransfer c =
    rw (c.in-UndefinedTransfer.is)
    (λ entry turns regs port bus long at plain holds.
    absurd (operation_law (row.UndefinedTransfer c.in-UndefinedTransfer.field-0) port regs bus long plain))

pub returns-in-CoprocessorTransfer : goal.returns-in-CoprocessorTransfer
returns-in-CoprocessorTransfer c =
    rw (c.in-CoprocessorTransfer.is)
    (λ entry turns regs port bus long at plain holds.
    absurd (operation_law (row.CoprocessorTransfer c.in-CoprocessorTransfer.field-0) port regs bus long plain))

pub returns-in-Coprocessor : goal.returns-in-Coprocessor
returns-in-Coprocessor c =
    rw (c.in-Coprocessor.is)
    (λ entry turns regs port bus long at plain holds.
    absurd (operation_law (row.Coprocessor c.in-Coprocessor.field-0) port regs bus long plain))
