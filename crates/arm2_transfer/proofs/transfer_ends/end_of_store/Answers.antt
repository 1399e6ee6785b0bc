use Rattle.std.proofs.Common.{refl}
use Rattle.bus_ticks.specs.Prices.{ahead_of}
use Rattle.arm2_transfer.proofs.Ticks.{end_of_store-are}
use Rattle.arm2_transfer.proofs.transfer_ends.end_of_store.Goals as goal

pub returns-clause-ticks : goal.returns-clause-ticks
returns-clause-ticks c =
    end_of_store-are c.args.prices.now c.args.accesses.from (ahead_of c.args.accesses.from 8) c.args.accesses.address c.args.accesses.words c.fetch_after.result c.transfer-moved.result refl c.fetch_after.ensures.price c.transfer-moved.ensures.price
