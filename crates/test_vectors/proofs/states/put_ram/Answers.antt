use Rattle.std.proofs.Common.{map}
use Rattle.json_trace.specs.Json.{separated}
use Rattle.test_vectors.specs.Writing.{pair_of}
use Rattle.test_vectors.proofs.ChainLaws.{as_text, two}
use Rattle.test_vectors.proofs.TextLaws.{ram_put}
use Rattle.test_vectors.proofs.states.put_ram.Goals as goal

pub returns : goal.returns
returns g c =
    as_text g.O.Output.taken g.O.Output.failures (two g.O.Output.taken g.O.Output.failures c.put.ensures (two g.O.Output.taken g.O.Output.failures c.put_words.ensures c.put-2.ensures))
    (ram_put (separated (map pair_of c.args.words.now)))
