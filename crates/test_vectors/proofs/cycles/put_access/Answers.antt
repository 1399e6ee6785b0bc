use Rattle.std.proofs.Common.{◌∙◌}
use Rattle.test_vectors.specs.Vector.{number_or_null}
use Rattle.test_vectors.proofs.TextLaws.{access_put}
use Rattle.test_vectors.proofs.ChainLaws.{as_text, two}
use Rattle.test_vectors.proofs.cycles.put_access.Goals as goal

pub returns : goal.returns
returns g c =
    as_text g.O.Output.taken g.O.Output.failures (two g.O.Output.taken g.O.Output.failures c.put_pieces.ensures (two g.O.Output.taken g.O.Output.failures c.put_value.ensures c.put.ensures))
    (access_put _ _ _ (number_or_null c.args.access.word) _ _ _ c.as_bytes.ensures.value (c.as_bytes-2.ensures.value ∙ c.boolean.ensures)
    (c.as_bytes-3.ensures.value ∙ c.format.ensures.text))
