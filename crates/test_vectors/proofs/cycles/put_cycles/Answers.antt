use Rattle.std.proofs.Common.{◌++◌, ℕ, List, ap, codes}
use Rattle.test_vectors.proofs.TextLaws.{accesses_are}
use Rattle.test_vectors.proofs.ChainLaws.{as_text, two}
use Rattle.test_vectors.proofs.cycles.put_cycles.Goals as goal

pub returns : goal.returns
returns g c = λ before is kept.
    as_text g.O.Output.taken g.O.Output.failures (two g.O.Output.taken g.O.Output.failures c.put.ensures (two g.O.Output.taken g.O.Output.failures c.put_accesses.ensures c.put-2.ensures))
    (ap (λ (t : List ℕ). codes "[" ++ (t ++ codes "]"))
    (accesses_are before c.args.memc.now c.args.place.done c.args.place.at c.args.place.to c.args.place.ahead is kept))
