use Rattle.std.proofs.Common.{take}
use Rattle.outputs.specs.OnTheWay.{Adds}
use Rattle.certificate.specs.Walk.{walk_lines}
use Rattle.certificate.specs.Written.{walk_text}
use Rattle.certificate.proofs.writing.+walk.Given as goal

abbrev pub invariant-put_items-loop-item : goal.invariant-put_items-loop-item
invariant-put_items-loop-item g l =
    Adds g.O.Output.taken g.O.Output.failures l.fn.out l.fn.page l.out l.page
    (walk_text (walk_lines (take l.item-index l.items)))
