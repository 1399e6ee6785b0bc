use Rattle.bus_ticks.proofs.WorstLemmas.{worst_block_small, worst_transfer_greatest}
use Rattle.bus_ticks.proofs.worst.worst_transfer.Goals as goal

pub returns-clause-greatest : goal.returns-clause-greatest
returns-clause-greatest c =
    worst_transfer_greatest c.args.profile.now c.args.class c.args.words c.args.store c.worst_transfer_number.result c.requires.some c.requires.few c.worst_transfer_number.ensures

pub returns-clause-small : goal.returns-clause-small
returns-clause-small c =
    worst_block_small c.args.profile.now c.args.class c.args.words c.args.store c.worst_transfer_number.result c.requires.some c.requires.few c.worst_transfer_number.ensures
