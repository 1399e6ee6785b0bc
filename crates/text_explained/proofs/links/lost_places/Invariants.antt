use Rattle.std.proofs.Common.{◌-◌}
use Rattle.control_flow.specs.Flow.{IsWellFormed}
use Rattle.control_flow.specs.Search.{by_order}
use Rattle.word_shapes.specs.Growing.{HasSameMembers}
use Rattle.text_explained.proofs.LinkLaws.{IsSearch}
use Rattle.text_explained.proofs.links.lost_places.Given as goal

abbrev pub invariant-loop-next : goal.invariant-loop-next
invariant-loop-next l = record {
  well : IsWellFormed l.handler.graph;
  found : HasSameMembers by_order l.lost.seen l.lost.order.items;
  search : IsSearch l.handler.image.now l.handler.statement l.handler.graph l.fn.by l.lost.order.items l.next;
}

abbrev pub decreases-loop-next : goal.decreases-loop-next
decreases-loop-next l = 16384 - l.next
