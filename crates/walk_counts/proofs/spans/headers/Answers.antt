use Rattle.std.proofs.Common.{Option, arith}
use Rattle.std.proofs.Math.ListN.{length-set}
use Rattle.numbered_walks.specs.declared.span.Span.{Span}
use Rattle.numbered_walks.proofs.Heading.{headers_next}
use Rattle.numbered_walks.proofs.Members.{no_span}
use Rattle.walk_counts.proofs.spans.headers.Goals as goal

pub loop-span-preserved : goal.loop-span-preserved
loop-span-preserved c =
    let ended = c.requires.ended c.loop-span.span-index no_span c.loop-span-test.true in (
      omega (arith, c.loop-span.invariant.0, length-set {A = Option Span}),
      headers_next c.args.spans.now c.loop-span.span-index no_span c.loop-span.headers.items c.loop-span-test.true (omega (arith, c.loop-span.invariant.0, ended)) c.loop-span.invariant.1,
    )
