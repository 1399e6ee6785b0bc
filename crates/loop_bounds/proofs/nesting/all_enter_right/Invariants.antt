use Rattle.std.proofs.Common.{take, All}
use Rattle.numbered_walks.specs.declared.span.NumberedEdge.{NumberedEdge}
use Rattle.loop_bounds.specs.Extents.{EntersRight}
use Rattle.loop_bounds.proofs.nesting.all_enter_right.Given as goal

abbrev pub invariant-loop-edge : goal.invariant-loop-edge
invariant-loop-edge l = All (λ (e : NumberedEdge). EntersRight l.extents e.from e.to) (take l.edge-index l.edges)
