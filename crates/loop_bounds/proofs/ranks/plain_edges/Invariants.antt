use Rattle.std.proofs.Common.{take}
use Rattle.loop_bounds.specs.Layout.{ArePlain}
use Rattle.loop_bounds.proofs.ranks.plain_edges.Given as goal

abbrev pub invariant-loop-edge : goal.invariant-loop-edge
invariant-loop-edge l = ArePlain l.extents (take l.edge-index l.edges) l.plain.items
