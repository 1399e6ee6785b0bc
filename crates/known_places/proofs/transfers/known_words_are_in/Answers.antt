use Rattle.std.proofs.Common.{subst}
use Rattle.known_words.specs.Known.{IsKnown}
use Rattle.known_places.proofs.transfers.known_words_are_in.Goals as goal

pub returns-in-Word : goal.returns-in-Word
returns-in-Word c = λ seen entry turns address known.
    let word = subst (λ k. IsKnown entry turns k address) c.in-Word.is known in
    c.words_are_in.ensures seen address word.1.0 word.1.1
