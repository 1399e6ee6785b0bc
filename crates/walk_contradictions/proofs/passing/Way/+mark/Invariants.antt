use Rattle.std.proofs.Common.{take, flat_map}
use Rattle.std.specs.BTreeSet.{contains}
use Rattle.std.specs.Ordering.{nat_cmp}
use Rattle.walk_contradictions.specs.Passing.{After, Has, In, Marks, Notes, in_order, walk_of}
use Rattle.walk_contradictions.proofs.passing.Way.+mark.Given as goal

abbrev pub invariant-mark_items-loop-number : goal.invariant-mark_items-loop-number
invariant-mark_items-loop-number l =
    Has l.set (After l.self.image.now l.self.direction (flat_map (walk_of l.self.direction) (take l.number (in_order l.self.direction l.items))) (In l.before))
    × Notes (Marks l.self.image.now l.self.direction (flat_map (walk_of l.self.direction) (take l.number (in_order l.self.direction l.items))) (In l.before))
    (contains nat_cmp l.initial.named) (contains nat_cmp l.named)
