use Rattle.std.proofs.Common.{subst}
use Rattle.known_words.specs.Known.{IsKnown}
use Rattle.known_places.proofs.destination.destination_of.Goals as goal

pub returns-in-Word : goal.returns-in-Word
returns-in-Word c = λ entry turns word known.
    c.destination_of_word.ensures entry turns word (subst (λ k. IsKnown entry turns k word) c.in-Word.is known)
