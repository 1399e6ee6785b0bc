use Rattle.std.proofs.Common.{◌++◌, ℕ, Option, ap, codes}
use Rattle.test_vectors.specs.Vector.{access_object}
use Rattle.test_vectors.proofs.ChainLaws.{as_text, two}
use Rattle.test_vectors.proofs.cycles.put_fetch.Goals as goal

pub returns : goal.returns
returns g c =
    as_text g.O.Output.taken g.O.Output.failures (two g.O.Output.taken g.O.Output.failures c.put.ensures c.put_access.ensures)
    (ap (λ (w : Option ℕ). codes "," ++ access_object (codes "fetch") c.args.follows c.args.address w) c.memory_word.ensures)
