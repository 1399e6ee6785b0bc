use Rattle.std.specs.BTreeSet.{contains}
use Rattle.std.specs.Ordering.{nat_cmp}
use Rattle.text_explained.specs.Idle.{IsLoopRow, is_with_others}
use Rattle.text_rows.proofs.RowLaws.{SoFar}
use Rattle.text_explained.proofs.idle.put_loops.Given as goal

abbrev pub invariant-loop-stated : goal.invariant-loop-stated
invariant-loop-stated l = SoFar (IsLoopRow l.apart l.graph (is_with_others l.seen.together (contains nat_cmp l.seen.reached.now))) l.loops l.stated-index l.initial.out.items l.out.items
