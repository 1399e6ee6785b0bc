use Rattle.std.proofs.Common.{ℕ, ap, codes}
use Rattle.test_vectors.specs.Vector.{access_object}
use Rattle.test_vectors.proofs.ChainLaws.{as_text}
use Rattle.test_vectors.proofs.cycles.put_ahead.Goals as goal

pub returns : goal.returns
returns g c =
    as_text g.O.Output.taken g.O.Output.failures c.put_access.ensures
    (ap (λ (a : ℕ). access_object (codes "fetch") c.args.follows a c.args.place.ahead) c.ahead_of.ensures.sum)
