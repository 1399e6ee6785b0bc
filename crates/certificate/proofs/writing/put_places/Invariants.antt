use Rattle.std.proofs.Common.{take}
use Rattle.outputs.specs.OnTheWay.{Adds}
use Rattle.certificate.specs.Written.{places_text}
use Rattle.certificate.proofs.writing.put_places.Given as goal

abbrev pub invariant-loop-row : goal.invariant-loop-row
invariant-loop-row g l =
    Adds g.O.Output.taken g.O.Output.failures l.fn.out l.fn.page l.out l.page
    (places_text (take l.row-index l.rows))
