use Rattle.std.proofs.Common.{◌≡◌, take}
use Rattle.responses.specs.Arriving.{cut_edges}
use Rattle.responses.proofs.ways.cut_edges.Given as goal

abbrev pub invariant-loop-edge : goal.invariant-loop-edge
invariant-loop-edge l = l.cut.items ≡ cut_edges l.exit l.ways (take l.edge-index l.edges)
