use Rattle.std.proofs.Common.{append_assoc}
use Rattle.test_vectors.proofs.ChainLaws.{as_text, two}
use Rattle.test_vectors.proofs.cycles.put_internal.Goals as goal

pub returns : goal.returns
returns g c =
    as_text g.O.Output.taken g.O.Output.failures (two g.O.Output.taken g.O.Output.failures c.put.ensures (two g.O.Output.taken g.O.Output.failures c.put-2.ensures c.put-3.ensures))
    (rw (c.as_bytes.ensures.value, c.format.ensures.text) (simp append_assoc))
