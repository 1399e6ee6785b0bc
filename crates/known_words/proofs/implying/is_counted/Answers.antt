use Rattle.std.proofs.Common.{arith}
use Rattle.std.proofs.lemmas.Bool.{leb-true}
use Rattle.known_words.proofs.implying.is_counted.Goals as goal
use Rattle.known_words.proofs.ImplyLemmas.{counted}

pub returns : goal.returns
returns c = λ within.
    let made = c.in-Some.ensures in
    let upto = leb-true c.args.range.high c.in-Some.most within in
    counted c.args.range c.args.sum (c.is_zero.ensures c.if-not-is_zero.false)
    (c.are_same_steps.ensures c.if-not-are_same_steps.false) made.0 c.if-range-sum.false (omega (arith, made, upto))
