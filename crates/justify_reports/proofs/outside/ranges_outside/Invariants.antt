use Rattle.std.specs.BTreeMap.{get}
use Rattle.std.specs.Ordering.{nat_cmp}
use Rattle.justify_reports.specs.Outside.{AreFoundOutside}
use Rattle.justify_reports.proofs.outside.ranges_outside.Given as goal

abbrev pub invariant-loop-number : goal.invariant-loop-number
invariant-loop-number l = AreFoundOutside l.handler.graph l.handler.tree l.outside l.number (get nat_cmp l.found)
