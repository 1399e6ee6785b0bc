use Rattle.std.proofs.Common.{take, flat_map}
use Rattle.walk_contradictions.specs.Passing.{After, Has, In, in_order, walk_of}
use Rattle.walk_contradictions.proofs.passing.Way.+pass.Given as goal

abbrev pub invariant-pass_items-loop-number : goal.invariant-pass_items-loop-number
invariant-pass_items-loop-number l =
    Has l.set (After l.self.image.now l.self.direction (flat_map (walk_of l.self.direction) (take l.number (in_order l.self.direction l.items))) (In l.initial.set))
