use Rattle.std.proofs.Common.{refl}
use Rattle.known_words.proofs.sums.steps_of_sum.Goals as goal
use Rattle.known_words.proofs.SumLemmas.{steps_added}

pub returns : goal.returns
returns c = steps_added c.args.first c.args.second _ refl refl refl refl
