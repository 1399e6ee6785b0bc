use Rattle.std.proofs.Common.{subst, sym}
use Rattle.arm2_decode.specs.declared.instr.Operation.TheVariants as row
use Rattle.arm2_effect.specs.Modes.{r15_in}
use Rattle.arm2_effect.specs.Operands.{first_of, rotated_byte}
use Rattle.arm2_effect.specs.Outcomes.{outcome_of}
use Rattle.arm2_effect.specs.ProgramCounter.{flags_of}
use Rattle.arm2_transfer.specs.Operations.{operation_moved}
use Rattle.operation_laws.proofs.OperationLaws.{operation_law}
use Rattle.known_words.specs.Known.{IsKnown}
use Rattle.known_places.proofs.WordLemmas.{data_jumps}
use Rattle.known_places.proofs.destination.immediate_jumps.Goals as goal

pub returns : goal.returns
returns c = λ entry turns regs port bus long at plain holds.
    let x = c.args.x.now in
    let o = row.DataImmediate x in
    let first = first_of 8 x.rn regs in
    let operand = rotated_byte x.value x.rotation regs in
    let flags = flags_of (r15_in regs) in
    let known =
    subst (IsKnown entry turns c.exactly-operand.result) (sym (c.rotated.ensures regs))
    (c.exactly-operand.ensures entry turns) in
    data_jumps x.opcode x.sets_flags x.rn x.rd 8 operand regs (operation_moved o port regs bus).regs entry
    c.destination_of.result c.requires (operation_law o port regs bus long plain).0
    (c.destination_of.ensures entry turns (outcome_of x.opcode first operand flags).value
    (c.computed.ensures entry turns first operand.value operand.carry flags
    (c.first_of-first.ensures entry turns regs at holds) known))
