use Rattle.std.proofs.Common.{Ok, ◌∙◌, ap, sym}
use Rattle.arm2_transfer.proofs.Chosen.{block_at-moves}
use Rattle.arm2_transfer.proofs.processor.Processor.word_by_word.Goals as goal

pub returns-in-Ok : goal.returns-in-Ok
returns-in-Ok c =
    rw
    (block_at-moves c.args.block.transfer c.args.block.span c.args.self.now.port c.is_user-user.result _ c.mode_of.result c.get.result c.as_slice.result.now c.args.self.now.registers c.args.self.now.bus c.get.ensures.word c.mode_of.ensures c.is_user-user.ensures c.requires c.if-block.true (c.in-Ok.ensures.verdict ∙ ap Ok (sym c.as_slice.ensures.value)))
    c.block_loads.ensures

pub returns-in-Ok-2 : goal.returns-in-Ok-2
returns-in-Ok-2 c =
    rw
    (block_at-moves c.args.block.transfer c.args.block.span c.args.self.now.port c.is_user-user.result _ c.mode_of.result c.get.result c.as_slice-in-Ok-2.result.now c.args.self.now.registers c.args.self.now.bus c.get.ensures.word c.mode_of.ensures c.is_user-user.ensures c.requires c.if-block.false (c.in-Ok.ensures.verdict ∙ ap Ok (sym c.as_slice-in-Ok-2.ensures.value)))
    c.block_stores.ensures
