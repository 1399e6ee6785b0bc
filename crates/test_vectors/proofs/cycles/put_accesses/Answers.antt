use Rattle.std.proofs.Common.{refl}
use Rattle.test_vectors.proofs.ChainLaws.{as_text, two}
use Rattle.test_vectors.proofs.cycles.put_accesses.Goals as goal

pub returns-in-Fetches : goal.returns-in-Fetches
returns-in-Fetches g c =
    as_text g.O.Output.taken g.O.Output.failures (two g.O.Output.taken g.O.Output.failures c.put_delay.ensures (two g.O.Output.taken g.O.Output.failures c.put_ahead.ensures c.put_refill.ensures)) (rw c.in-Fetches.is refl)

pub returns-in-Loads : goal.returns-in-Loads
returns-in-Loads g c =
    as_text g.O.Output.taken g.O.Output.failures
    (two g.O.Output.taken g.O.Output.failures c.put_ahead-in-Loads.ensures (two g.O.Output.taken g.O.Output.failures c.put_moved.ensures (two g.O.Output.taken g.O.Output.failures c.put.ensures (two g.O.Output.taken g.O.Output.failures c.put_internal.ensures c.put_refill-in-Loads.ensures))))
    (rw c.in-Loads.is refl)

pub returns-in-Stores : goal.returns-in-Stores
returns-in-Stores g c =
    as_text g.O.Output.taken g.O.Output.failures (two g.O.Output.taken g.O.Output.failures c.put_ahead-in-Stores.ensures c.put_moved-in-Stores.ensures) (rw c.in-Stores.is refl)
