use Rattle.std.proofs.Common.{take}
use Rattle.control_flow.specs.Search.{by_order}
use Rattle.text_explained.specs.Losing.{ByEdge, HasRoom}
use Rattle.word_shapes.specs.Growing.{Grows, HasSameMembers}
use Rattle.text_explained.proofs.links.Lost.follow.Given as goal

abbrev pub invariant-loop-edge : goal.invariant-loop-edge
invariant-loop-edge l = record {
  found : HasSameMembers by_order l.self.seen l.self.order.items;
  grows : Grows HasRoom (ByEdge l.handler.image.now l.handler.statement l.step (take l.edge-index l.edges)) l.fn.self.order.items l.self.order.items;
}
