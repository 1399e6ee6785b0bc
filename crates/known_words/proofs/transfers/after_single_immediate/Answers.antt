use Rattle.std.proofs.Common.{refl}
use Rattle.arm2_decode.specs.declared.instr.Operation.TheVariants as row
use Rattle.arm2_transfer.specs.Operations.{operation_moved}
use Rattle.arm2_transfer.specs.Single.{of_immediate}
use Rattle.operation_laws.proofs.KeepLaws.{keep_law}
use Rattle.operation_laws.proofs.OperationLaws.{operation_law}
use Rattle.known_words.proofs.transfers.after_single_immediate.Goals as goal
use Rattle.known_words.proofs.TransferLemmas.{fields_same}

pub returns : goal.returns
returns c = λ entry turns regs port bus long at plain holds.
    let o = row.SingleImmediate c.args.x in
    c.after_single.ensures entry turns regs port bus (of_immediate c.args.x) (operation_moved o port regs bus)
    (fields_same (of_immediate c.args.x) c.writes_base.result c.writes_base.ensures) (keep_law o port regs bus long plain) refl
    (operation_law o port regs bus long plain) (c.exactly-offset.ensures entry turns) at holds
