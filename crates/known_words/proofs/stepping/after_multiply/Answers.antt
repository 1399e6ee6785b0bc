use Rattle.std.proofs.Common.{refl}
use Rattle.arm2_decode.specs.declared.instr.Operation.TheVariants as row
use Rattle.arm2_transfer.specs.Operations.{operation_moved}
use Rattle.operation_laws.proofs.OperationLaws.{operation_law}
use Rattle.operation_laws.proofs.KeepLaws.{keep_law}
use Rattle.known_words.proofs.stepping.after_multiply.Goals as goal
use Rattle.known_words.proofs.ForgetLemmas.{forgotten_flags, forgotten_holds}
use Rattle.known_words.proofs.TransferLemmas.{multiply_flags}

pub returns-then-x : goal.returns-then-x
returns-then-x c = λ entry turns regs port bus long at plain holds.
    let o = row.Multiply c.args.x in
    let m = operation_moved o port regs bus in
    rw (c.with_flags.ensures)
    (forgotten_flags o entry turns regs m.regs (keep_law o port regs bus long plain) refl c.args.before.now
    c.forgotten-kept.result c.forgotten-kept.ensures.registers holds)

pub returns : goal.returns
returns c = λ entry turns regs port bus long at plain holds.
    let o = row.Multiply c.args.x in
    let m = operation_moved o port regs bus in
    forgotten_holds o entry turns regs m.regs (keep_law o port regs bus long plain) refl c.args.before.now
    c.forgotten-kept.result c.forgotten-kept.ensures.registers holds c.forgotten-kept.ensures.compared
    (multiply_flags regs m.regs c.args.x (operation_law o port regs bus long plain).0 c.if-x.false)
