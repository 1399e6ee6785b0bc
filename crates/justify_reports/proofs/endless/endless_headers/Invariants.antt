use Rattle.std.specs.BTreeMap.{get}
use Rattle.std.specs.Ordering.{nat_cmp}
use Rattle.justify_reports.specs.Endless.{AreFoundEndless}
use Rattle.justify_reports.proofs.endless.endless_headers.Given as goal

abbrev pub invariant-loop-number : goal.invariant-loop-number
invariant-loop-number l = AreFoundEndless l.handler.tree l.endless l.number (get nat_cmp l.found)
