use Rattle.std.proofs.Common.{sym}
use Rattle.text_refusals.proofs.ExtentLemmas.{first_is, so_far_all}
use Rattle.text_refusals.proofs.extents.extent_of.Goals as goal

pub returns : goal.returns
returns c =
    let first = first_is c.args.cycle.now c.in_ok-start.start.now (sym c.in_ok-start.ensures.value) in
    record {
      extent =
          so_far_all c.args.cycle.now c.in-At.list c.in-At.header c.loop-edge.edge-index c.in_ok-start.start.now first.0 c.loop-edge.extent
          c.loop-edge-test.false first.1 c.in-At.is c.loop-edge.invariant;
      none = tt;
    }
