use Rattle.std.proofs.Common.{take}
use Rattle.text_masked.specs.Held.{AreTurned}
use Rattle.text_masked.proofs.region.find_turned.Given as goal

abbrev pub invariant-loop-edge : goal.invariant-loop-edge
invariant-loop-edge l = AreTurned (take l.edge-index l.marked) l.held l.size l.turned.items
