use Rattle.loop_bounds.specs.Layout.{AreMoved}
use Rattle.loop_bounds.proofs.layout.renumbered.Given as goal

abbrev pub invariant-loop-edge : goal.invariant-loop-edge
invariant-loop-edge l = AreMoved l.numbers l.edges l.moved.items l.edge-index
