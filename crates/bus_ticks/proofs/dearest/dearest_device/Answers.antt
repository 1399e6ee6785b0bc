use Rattle.bus_ticks.proofs.WorstLemmas.{any_block, io_block}
use Rattle.bus_ticks.proofs.dearest.dearest_device.Goals as goal

pub returns-clause-block : goal.returns-clause-block
returns-clause-block c =
    let field = c.dearest_of-field in
    io_block c.args.profile.now field.result field.ensures.few field.ensures.dearest

pub returns-clause-any : goal.returns-clause-any
returns-clause-any c words few store rom =
    let field = c.dearest_of-field in
    any_block c.args.profile.now words store _
    (io_block c.args.profile.now field.result field.ensures.few field.ensures.dearest words few store rom)
