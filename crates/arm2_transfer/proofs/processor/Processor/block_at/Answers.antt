use Rattle.arm2_decode.specs.Transfers.{registers_in}
use Rattle.arm2_transfer.proofs.Chosen.{block_at-moves}
use Rattle.arm2_transfer.proofs.RunLemmas.{run_verdict}
use Rattle.arm2_transfer.proofs.processor.Processor.block_at.Goals as goal

pub returns-in-Some : goal.returns-in-Some
returns-in-Some c =
    rw
    (block_at-moves c.args.block.transfer c.args.block.span c.args.self.now.port c.is_user-user.result _ c.mode_of.result c.get.result _ c.args.self.now.registers c.args.self.now.bus c.get.ensures.word c.mode_of.ensures c.is_user-user.ensures c.if-span-ge-SPACE_END.false c.if-load.true (run_verdict c.args.self.now.bus.memc c.is_user-user.result _ c.args.block.span.lowest c.args.block.span.words c.in-Some.place (registers_in c.args.block.transfer.list) c.requires c.in-Some.ensures.run))
    c.load_run.ensures

pub returns-in-Some-2 : goal.returns-in-Some-2
returns-in-Some-2 c =
    rw
    (block_at-moves c.args.block.transfer c.args.block.span c.args.self.now.port c.is_user-user.result _ c.mode_of.result c.get.result _ c.args.self.now.registers c.args.self.now.bus c.get.ensures.word c.mode_of.ensures c.is_user-user.ensures c.if-span-ge-SPACE_END.false c.if-load.false (run_verdict c.args.self.now.bus.memc c.is_user-user.result _ c.args.block.span.lowest c.args.block.span.words c.in-Some.place (registers_in c.args.block.transfer.list) c.requires c.in-Some.ensures.run))
    c.store_run.ensures
