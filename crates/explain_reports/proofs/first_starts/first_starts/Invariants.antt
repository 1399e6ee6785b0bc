use Rattle.std.proofs.Common.{take}
use Rattle.std.specs.BTreeMap.{get}
use Rattle.std.specs.Ordering.{nat_cmp}
use Rattle.explain_reports.specs.FirstStarts.{AreFirstStarts}
use Rattle.explain_reports.proofs.first_starts.first_starts.Given as goal

abbrev pub invariant-loop-place : goal.invariant-loop-place
invariant-loop-place l = AreFirstStarts l.handler.graph l.handler.statement.loops (take l.place-index l.handler.graph.places) (get nat_cmp l.first)
