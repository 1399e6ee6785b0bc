use Rattle.arm2_transfer.proofs.Chosen.{single_at-moves}
use Rattle.arm2_transfer.proofs.processor.Processor.single_at.Goals as goal

pub returns-in-Ok : goal.returns-in-Ok
returns-in-Ok c =
    rw
    (single_at-moves c.args.single.transfer c.args.single.base c.args.self.now.port c.address-address.result c.has_user_rights-user.result _ c.mode_of.result c.get.result c.locate_word.result c.in-Ok.spot c.args.self.now.registers c.args.self.now.bus c.get.ensures.word c.mode_of.ensures c.has_user_rights-user.ensures c.address-address.ensures c.if-address-ge-SPACE_END.false c.if-transfer.true c.locate_word.ensures.met c.in-Ok.is)
    c.single_loads.ensures

pub returns-in-Ok-2 : goal.returns-in-Ok-2
returns-in-Ok-2 c =
    rw
    (single_at-moves c.args.single.transfer c.args.single.base c.args.self.now.port c.address-address.result c.has_user_rights-user.result _ c.mode_of.result c.get.result c.locate_word.result c.in-Ok.spot c.args.self.now.registers c.args.self.now.bus c.get.ensures.word c.mode_of.ensures c.has_user_rights-user.ensures c.address-address.ensures c.if-address-ge-SPACE_END.false c.if-transfer.false c.locate_word.ensures.met c.in-Ok.is)
    c.single_stores.ensures
