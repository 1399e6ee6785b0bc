use Rattle.std.specs.BTreeSet.{contains}
use Rattle.std.specs.Ordering.{nat_cmp}
use Rattle.text_explained.specs.Idle.{IsEntryRow, is_with_others}
use Rattle.text_rows.proofs.RowLaws.{SoFar}
use Rattle.text_explained.proofs.idle.put_entries.Given as goal

abbrev pub invariant-loop-address : goal.invariant-loop-address
invariant-loop-address l =
    SoFar (IsEntryRow l.seen.image.now (contains nat_cmp l.seen.done.now) (contains nat_cmp l.seen.reached.now) (is_with_others l.seen.together (contains nat_cmp l.seen.reached.now)) l.entry) l.at l.address-index l.initial.out.items l.out.items
