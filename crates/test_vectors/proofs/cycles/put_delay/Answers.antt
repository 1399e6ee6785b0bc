use Rattle.std.proofs.Common.{refl}
use Rattle.test_vectors.proofs.ChainLaws.{as_text, two}
use Rattle.test_vectors.proofs.cycles.put_delay.Goals as goal

pub returns-in-Some : goal.returns-in-Some
returns-in-Some g c =
    as_text g.O.Output.taken g.O.Output.failures (two g.O.Output.taken g.O.Output.failures c.put_internal.ensures c.put.ensures) (rw c.in-Some.is refl)
