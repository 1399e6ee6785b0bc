use Rattle.std.proofs.Common.{subst}
use Rattle.known_words.specs.Known.{IsKnown}
use Rattle.known_words.proofs.edges.other_than.Goals as goal

pub returns-in-Word : goal.returns-in-Word
returns-in-Word c = λ entry turns word apart is.
    let known = subst (λ k. IsKnown entry turns k word) c.in-Word.is is in
    (known.0, c.range_other_than.ensures word apart known.1)
