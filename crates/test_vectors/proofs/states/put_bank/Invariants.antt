use Rattle.outputs.specs.OnTheWay.{Adds}
use Rattle.json_trace.specs.Json.{ended}
use Rattle.test_vectors.specs.Vector.{bank}
use Rattle.test_vectors.proofs.states.put_bank.Given as goal

abbrev pub invariant-loop-k : goal.invariant-loop-k
invariant-loop-k g l =
    Adds g.O.Output.taken g.O.Output.failures l.fn.out l.fn.page l.out l.page
    (ended (bank l.mode l.registers l.first l.k))
