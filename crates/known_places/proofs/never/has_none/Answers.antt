use Rattle.std.proofs.Common.{subst}
use Rattle.known_words.specs.Known.{IsKnown}
use Rattle.known_words.specs.declared.words.Known.{Known}
use Rattle.known_places.proofs.never.has_none.Goals as goal

pub returns-in-Word : goal.returns-in-Word
returns-in-Word c = λ seen entry turns word is.
    c.is_empty.ensures seen word (subst (λ (known : Known). IsKnown entry turns known word) c.in-Word.is is).1
