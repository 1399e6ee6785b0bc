use Rattle.std.proofs.Common.{sym, ◌∙◌}
use Rattle.arm2_effect.specs.Modes.{r15_in}
use Rattle.arm2_effect.specs.Operands.{first_of}
use Rattle.arm2_effect.specs.Outcomes.{outcome_of}
use Rattle.arm2_effect.specs.ProgramCounter.{flags_of}
use Rattle.known_words.proofs.data.after_data.Goals as goal
use Rattle.known_words.proofs.HoldLemmas.{data_enters, data_signs}

pub returns : goal.returns
returns c = λ entry turns regs after shifted at known left holds.
    let x = c.args.fields in
    let first = first_of x.bytes x.rn regs in
    let flags = flags_of (r15_in regs) in
    let computes = sym c.is_compare.ensures ∙ c.if-is_compare.false in
    let no_pc = sym c.is_pc.ensures ∙ c.if-is_pc.false in
    c.after_result.ensures entry turns regs after (outcome_of x.opcode first shifted flags).value
    (c.computed-known.ensures entry turns first shifted.value shifted.carry flags
    (c.first_of-first.ensures entry turns regs at holds) known)
    (data_enters x.opcode x.sets_flags x.rn x.rd x.bytes shifted regs after c.requires left computes no_pc)
    (data_signs x.opcode x.sets_flags x.rn x.rd x.bytes shifted regs after c.requires left) holds
