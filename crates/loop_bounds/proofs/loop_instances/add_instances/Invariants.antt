use Rattle.std.proofs.Common.{◌≡◌, ◌++◌, map, take}
use Rattle.loop_bounds.proofs.FindLemmas.{found_at}
use Rattle.loop_bounds.proofs.loop_instances.add_instances.Given as goal

abbrev pub invariant-loop-stated : goal.invariant-loop-stated
invariant-loop-stated l = l.found.items ≡ l.initial.found.items ++ map (found_at l.list) (take l.stated-index l.stated-items)
