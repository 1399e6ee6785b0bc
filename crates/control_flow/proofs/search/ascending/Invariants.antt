use Rattle.std.proofs.Common.{◌≡◌, ◌++◌}
use Rattle.control_flow.specs.Search.{ascending}
use Rattle.control_flow.proofs.search.ascending.Given as goal

-- what is left to read is the rest of the whole
abbrev pub invariant-loop-member : goal.invariant-loop-member
invariant-loop-member g l = l.members.items ++ ascending l.member-iterator.iter ≡ ascending l.set.keys
