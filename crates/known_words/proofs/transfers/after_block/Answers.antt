use Rattle.std.proofs.Common.{◌*◌, ◌&&◌, ◌∙◌, ℕ, Bool, not, sym, ap, subst}
use Rattle.arm2_decode.specs.declared.instr.Operation.TheVariants as row
use Rattle.arm2_effect.specs.Operands.{first_of}
use Rattle.arm2_transfer.specs.Operations.{operation_moved}
use Rattle.arm2_transfer.specs.Registers.{moved_by}
use Rattle.operation_laws.proofs.KeepLaws.{keep_law}
use Rattle.operation_laws.proofs.OperationLaws.{operation_law}
use Rattle.known_words.specs.Known.{IsKnown}
use Rattle.known_words.proofs.transfers.after_block.Goals as goal
use Rattle.known_words.proofs.ForgetLemmas.{forgotten_holds}
use Rattle.known_words.proofs.TransferLemmas.{block_base, block_flags}

pub returns : goal.returns
returns c = λ entry turns regs port bus long at plain holds.
    let x = c.args.x in
    let o = row.Block x in
    let m = operation_moved o port regs bus in
    let left = operation_law o port regs bus long plain in
    let kept =
    forgotten_holds o entry turns regs m.regs (keep_law o port regs bus long plain) c.requires c.args.before.now
    c.forgotten-kept.result c.forgotten-kept.ensures.registers holds c.forgotten-kept.ensures.compared
    (block_flags x port regs bus m left c.requires) in
    let count = c.word_count.ensures.count in
    let known =
    c.moved.ensures entry turns (first_of 8 x.rn regs) (4 * c.word_count.result)
    (c.first_of-base.ensures entry turns regs at holds) (c.exactly-offset.ensures entry turns) in
    c.with_word.ensures entry turns m.regs kept
    (λ is no_pc.
    let moves =
    ap (λ (b : Bool). x.write_back && not (x.load && b)) (sym c.is_listed.ensures)
    ∙ sym c.leaves_base-is_moved.ensures ∙ is in
    let word =
    block_base x port regs bus m left c.requires moves no_pc
    ∙ ap (λ (n : ℕ). moved_by x.up (first_of 8 x.rn regs) (4 * n)) (sym count) in
    subst (IsKnown entry turns c.moved.result) (sym word) known)
