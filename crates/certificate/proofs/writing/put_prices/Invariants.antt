use Rattle.std.proofs.Common.{take}
use Rattle.outputs.specs.OnTheWay.{Adds}
use Rattle.certificate.specs.Written.{prices_text}
use Rattle.certificate.proofs.writing.put_prices.Given as goal

abbrev pub invariant-loop-number : goal.invariant-loop-number
invariant-loop-number g l =
    Adds g.O.Output.taken g.O.Output.failures l.fn.out l.fn.page l.out l.page
    (prices_text (take l.number-index l.numbers))
