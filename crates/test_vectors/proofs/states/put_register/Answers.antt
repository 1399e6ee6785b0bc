use Rattle.std.proofs.Common.{append_assoc}
use Rattle.test_vectors.proofs.ChainLaws.{as_text, two}
use Rattle.test_vectors.proofs.states.put_register.Goals as goal

pub returns : goal.returns
returns g c =
    as_text g.O.Output.taken g.O.Output.failures c.put_pieces.ensures
    (rw (c.as_bytes.ensures.value, c.format.ensures.text, c.as_bytes-2.ensures.value, c.bank_suffix.ensures, c.as_bytes-3.ensures.value, c.format-2.ensures.text)
    (simp append_assoc))
