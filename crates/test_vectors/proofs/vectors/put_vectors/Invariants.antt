use Rattle.std.proofs.Common.{List, ℕ}
use Rattle.outputs.specs.OnTheWay.{Adds}
use Rattle.test_vectors.specs.Vector.{AreVectors}
use Rattle.test_vectors.proofs.vectors.put_vectors.Given as goal

abbrev pub invariant-loop-number : goal.invariant-loop-number
invariant-loop-number g l =
    (text : List ℕ) × AreVectors l.number text
    × Adds g.O.Output.taken g.O.Output.failures l.fn.out l.fn.page l.out l.page text
