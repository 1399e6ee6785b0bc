use Rattle.std.proofs.Common.{take, arith}
use Rattle.numbered_walks.proofs.Holding.{hold_next, hold_done}
use Rattle.numbered_walks.proofs.Members.{no_span}
use Rattle.cert_check.proofs.index.holders.Goals as goal

pub loop-span-preserved : goal.loop-span-preserved
loop-span-preserved c = (
  omega (arith, c.loop-span.invariant.0, c.note.ensures.length),
  hold_next c.args.spans.now c.loop-span.span-index no_span c.note.new.held.items c.loop-span-test.true
      (c.in_ok-note.ensures.noted (take c.loop-span.span-index c.args.spans.now) c.loop-span.invariant.1),
)

pub returns : goal.returns
returns c = (c.loop-span.invariant.0, hold_done c.args.spans.now c.loop-span.span-index c.loop-span.held.items (omega arith) c.loop-span.invariant.1)
