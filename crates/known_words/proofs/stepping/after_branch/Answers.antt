use Rattle.std.proofs.Common.{ℕ, ◌∙◌, ap, sym, refl}
use Rattle.bus_ticks.specs.Prices.{ahead_of}
use Rattle.arm2_decode.specs.declared.instr.Operation.TheVariants as row
use Rattle.arm2_transfer.specs.Operations.{operation_moved}
use Rattle.operation_laws.proofs.OperationLaws.{operation_law}
use Rattle.operation_laws.proofs.KeepLaws.{keep_law}
use Rattle.known_words.proofs.stepping.after_branch.Goals as goal
use Rattle.known_words.proofs.ForgetLemmas.{forgotten_holds}
use Rattle.known_words.proofs.TransferLemmas.{branch_flags, branch_link}

pub returns : goal.returns
returns c = λ entry turns regs port bus long at plain holds.
    let x = c.args.x in
    let o = row.Branch x in
    let m = operation_moved o port regs bus in
    let left = (operation_law o port regs bus long plain).0 in
    let kept =
    forgotten_holds o entry turns regs m.regs (keep_law o port regs bus long plain) refl c.args.before.now
    c.forgotten-kept.result c.forgotten-kept.ensures.registers holds c.forgotten-kept.ensures.compared
    (branch_flags regs m.regs x left) in
    c.with_word.ensures entry turns m.regs kept
    (λ is no_pc.
    branch_link regs m.regs x left is ∙ ap (λ (a : ℕ). ahead_of a 4) at ∙ sym c.ahead_of.ensures.sum)
