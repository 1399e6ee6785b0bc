use Rattle.known_words.proofs.sums.sum_of.Goals as goal
use Rattle.std.proofs.Common.{refl}
use Rattle.known_words.proofs.SumLemmas.{sums}

pub returns : goal.returns
returns c = λ entry turns x y p q.
    sums entry turns c.args.first c.args.second _ x y (c.in-Some.ensures entry) refl c.in-Some-checked_add.ensures.1
    c.steps_of_sum.ensures p q
