use Rattle.std.specs.BTreeMap.{get}
use Rattle.std.specs.Ordering.{nat_cmp}
use Rattle.justify_reports.specs.Returns.{AreFound}
use Rattle.justify_reports.proofs.returns.goings.Given as goal

abbrev pub invariant-loop-number : goal.invariant-loop-number
invariant-loop-number l =
    AreFound l.handler.image.now l.handler.statement l.handler.graph l.handler.tree l.destinations l.number (get nat_cmp l.found)
