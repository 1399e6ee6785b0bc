use Rattle.std.proofs.Common.{◌++◌}
use Rattle.test_vectors.specs.Vector.{opening}
use Rattle.test_vectors.proofs.VectorLaws.{more_vectors}
use Rattle.test_vectors.proofs.ChainLaws.{two}
use Rattle.test_vectors.proofs.vectors.put_vectors.Goals as goal

pub loop-number-preserved : goal.loop-number-preserved
loop-number-preserved g c =
    let front = c.loop-number.invariant.0 in
    let vector = c.put_vector.ensures.0 in (
      front ++ (opening c.loop-number.number ++ vector),
      more_vectors c.loop-number.number front vector c.loop-number.invariant.1 c.put_vector.ensures.1,
      two g.O.Output.taken g.O.Output.failures c.loop-number.invariant.2 (two g.O.Output.taken g.O.Output.failures c.put_opening.ensures c.put_vector.ensures.2),
    )
