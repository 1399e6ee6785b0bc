use Rattle.std.proofs.Common.{refl, arith, ap}
use Rattle.known_words.proofs.sums.difference_of.Goals as goal
use Rattle.known_words.specs.Known.{start_in}
use Rattle.known_words.proofs.SumLemmas.{differences}

pub returns : goal.returns
returns c = λ entry turns x y p q.
    let one = c.difference.ensures 1 in
    let two = c.difference-2.ensures 1 in
    differences entry turns c.args.first c.args.second _ x y refl (ap (λ s. start_in s entry) c.in-Zero.is)
    (omega (arith, one, two)) c.in-Some.ensures.1
    c.steps_of_difference.ensures p q
