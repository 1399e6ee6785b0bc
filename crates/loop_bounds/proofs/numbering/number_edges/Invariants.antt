use Rattle.std.proofs.Common.{◌≤◌, length}
use Rattle.control_flow.specs.Places.{place_at}
use Rattle.loop_bounds.specs.TreeParts.{AreNumberedUpto}
use Rattle.loop_bounds.proofs.numbering.number_edges.Given as goal

abbrev pub invariant-loop-edge : goal.invariant-loop-edge
invariant-loop-edge l = record {
  numbered : AreNumberedUpto l.graph (place_at l.listed) (length l.graph.places) l.numbered.items l.edge-index;
  near : l.near ≤ length l.listed;
}
