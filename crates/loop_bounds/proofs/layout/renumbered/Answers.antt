use Rattle.std.proofs.Common.{◌≡◌, length, subst, arith}
use Rattle.loop_bounds.specs.Layout.{AreMoved}
use Rattle.loop_bounds.proofs.LayoutLemmas.{moved_more}
use Rattle.loop_bounds.proofs.layout.renumbered.Goals as goal

pub loop-edge-preserved : goal.loop-edge-preserved
loop-edge-preserved c = rw c.in_ok-push.ensures.items (moved_more c.args.numbers.now c.args.edges.now c.loop-edge.moved.items c.loop-edge.edge-index c.loop-edge.invariant c.loop-edge-test.true)

pub returns : goal.returns
returns c =
    let ended : c.loop-edge.edge-index ≡ length c.args.edges.now = omega arith in
    subst (AreMoved c.args.numbers.now c.args.edges.now c.loop-edge.moved.items) ended c.loop-edge.invariant
