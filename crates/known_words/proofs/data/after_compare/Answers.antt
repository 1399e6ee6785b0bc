use Rattle.std.proofs.Common.{refl}
use Rattle.arm2_effect.specs.Modes.{r15_in}
use Rattle.arm2_effect.specs.Operands.{first_of}
use Rattle.arm2_effect.specs.ProgramCounter.{flags_of}
use Rattle.known_words.proofs.data.after_compare.Goals as goal
use Rattle.known_words.proofs.HoldLemmas.{compare_holds, compare_keeps, compare_sets}

pub returns-then-fields : goal.returns-then-fields
returns-then-fields c = λ entry turns regs after shifted at known left holds.
    let x = c.args.fields in
    let old = c.args.before.now in
    let by =
    c.compared.ensures entry turns (first_of x.bytes x.rn regs) shifted.value shifted.carry (flags_of (r15_in regs)) known in
    rw (c.with_flags.ensures)
    (compare_holds x.opcode x.sets_flags x.rn x.rd x.bytes shifted regs after c.requires.stays left entry turns old
    (record old { compared = c.compared.result }) c.requires.compares (λ r. refl)
    (compare_sets x.opcode x.sets_flags x.rn x.rd x.bytes shifted regs after c.requires.stays left c.compared.result
    c.requires.compares c.if-fields.true by) holds)

pub returns : goal.returns
returns c = λ entry turns regs after shifted at known left holds.
    let x = c.args.fields in
    let old = c.args.before.now in
    compare_holds x.opcode x.sets_flags x.rn x.rd x.bytes shifted regs after c.requires.stays left entry turns old old
    c.requires.compares (λ r. refl)
    (compare_keeps x.opcode x.sets_flags x.rn x.rd x.bytes shifted regs after c.requires.stays left old.compared
    c.requires.compares c.if-fields.false holds.flags) holds
