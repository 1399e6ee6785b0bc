use Rattle.arm2_decode.specs.declared.instr.Operation.TheVariants as row
use Rattle.arm2_effect.specs.Modes.{r15_in}
use Rattle.arm2_effect.specs.Operands.{first_of, shifted_by_amount}
use Rattle.arm2_effect.specs.Outcomes.{outcome_of}
use Rattle.arm2_effect.specs.ProgramCounter.{flags_of}
use Rattle.arm2_transfer.specs.Operations.{operation_moved}
use Rattle.operation_laws.proofs.OperationLaws.{operation_law}
use Rattle.known_places.proofs.WordLemmas.{data_jumps}
use Rattle.known_places.proofs.destination.register_jumps.Goals as goal

pub returns : goal.returns
returns c = λ entry turns regs port bus long at plain holds.
    let x = c.args.x.now in
    let o = row.DataRegister x in
    let first = first_of 8 x.rn regs in
    let operand = shifted_by_amount x.shift x.amount x.rm regs in
    let flags = flags_of (r15_in regs) in
    data_jumps x.opcode x.sets_flags x.rn x.rd 8 operand regs (operation_moved o port regs bus).regs entry
    c.destination_of.result c.requires (operation_law o port regs bus long plain).0
    (c.destination_of.ensures entry turns (outcome_of x.opcode first operand flags).value
    (c.computed.ensures entry turns first operand.value operand.carry flags
    (c.first_of-first.ensures entry turns regs at holds) (c.shifted_of-operand.ensures entry turns regs at holds)))
