use Rattle.std.proofs.Common.{arith}
use Rattle.std.proofs.lemmas.Bool.{leb-true}
use Rattle.known_words.proofs.implying.is_sum_of.Goals as goal
use Rattle.known_words.proofs.ImplyLemmas.{sum_within}

pub returns : goal.returns
returns c = λ within.
    let more = c.in-Some.ensures in
    let width = c.in-Some-checked_add.ensures in
    let fits = leb-true _ _ within in
    sum_within c.args.sum c.args.other c.in-Some.more (c.is_same_start.ensures c.if-not-is_same_start.false)
    (c.are_same_steps.ensures c.if-not-are_same_steps.false) (omega (arith, more)) (omega (arith, width, fits))
