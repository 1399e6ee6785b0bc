use Rattle.std.proofs.Common.{◌-◌}
use Rattle.control_flow.specs.Faulty.{IsWalked}
use Rattle.control_flow.specs.Search.{IsFound, IsSearch}
use Rattle.control_flow.proofs.faulty.faulty_place.Given as goal

abbrev pub invariant-loop-next : goal.invariant-loop-next
invariant-loop-next l = record {
  found : IsFound l.seen l.order.items;
  search : IsSearch l.image l.statement l.profile l.order.items l.next;
  walked : IsWalked l.image l.statement l.profile l.order.items l.walked.items;
}

abbrev pub decreases-loop-next : goal.decreases-loop-next
decreases-loop-next l = 16384 - l.next
