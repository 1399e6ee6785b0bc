use Rattle.std.proofs.Common.{take}
use Rattle.control_flow.specs.Search.{IsFound, Grows}
use Rattle.control_flow.proofs.search.add_ends.Given as goal

abbrev pub invariant-loop-edge : goal.invariant-loop-edge
invariant-loop-edge l = IsFound l.seen l.order.items × Grows l.fn.order.items (take l.edge-index l.edges) l.order.items
