use Rattle.std.proofs.Common.{ap, arith, below_more, length}
use Rattle.known_places.proofs.table.keeps_along_all.Goals as goal

pub loop-number-preserved : goal.loop-number-preserved
loop-number-preserved c =
    below_more _ _ c.loop-number.invariant (c.keeps_along.ensures c.if-not-keeps_along.false)

pub returns : goal.returns
returns c = λ seen k h.
    c.loop-number.invariant k (omega (arith, c.loop-number-test.false, ap length c.edges-number-end.ensures.value))
