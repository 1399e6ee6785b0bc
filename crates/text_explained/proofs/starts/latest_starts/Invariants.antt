use Rattle.std.proofs.Common.{length}
use Rattle.std.specs.BTreeMap.{get}
use Rattle.std.specs.Ordering.{nat_cmp}
use Rattle.text_explained.proofs.StartLaws.{AreLatestSoFar}
use Rattle.text_explained.proofs.starts.latest_starts.Given as goal

abbrev pub invariant-loop-place : goal.invariant-loop-place
invariant-loop-place l = AreLatestSoFar l.graph.places l.starts (length l.yielded) (get nat_cmp l.latest)
