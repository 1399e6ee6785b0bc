use Rattle.std.proofs.Common.{arith}
use Rattle.std.proofs.Common.{Option}
use Rattle.std.proofs.Math.ListN.{length-set}
use Rattle.numbered_walks.specs.declared.span.Span.{Span}
use Rattle.numbered_walks.proofs.Heading.{headers_next}
use Rattle.numbered_walks.proofs.index.headers.Goals as goal
use Rattle.numbered_walks.proofs.Members.{no_span}

pub loop-span-preserved : goal.loop-span-preserved
loop-span-preserved c = (
  omega (arith, c.loop-span.invariant.0, length-set {A = Option Span}),
  headers_next c.args.spans.now c.loop-span.span-index no_span c.loop-span.headers.items c.loop-span-test.true
      (omega (arith, c.loop-span.invariant.0, c.requires.known c.loop-span.span-index no_span c.loop-span-test.true)) c.loop-span.invariant.1,
)
