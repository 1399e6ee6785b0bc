use Rattle.outputs.specs.OnTheWay.{Adds}
use Rattle.test_vectors.specs.Writing.{moved_objects}
use Rattle.test_vectors.proofs.cycles.put_moved.Given as goal

abbrev pub invariant-loop-number : goal.invariant-loop-number
invariant-loop-number g l =
    Adds g.O.Output.taken g.O.Output.failures l.fn.out l.fn.page l.out l.page
    (moved_objects l.memc l.moved.store l.moved.address l.number)
