use Rattle.std.proofs.Common.{subst}
use Rattle.known_words.specs.Known.{IsKnown}
use Rattle.known_words.specs.declared.words.Known.{Known}
use Rattle.known_places.proofs.limits.limited_known.Goals as goal

pub returns-in-Word : goal.returns-in-Word
returns-in-Word c = λ entry turns word within k.
    c.limited_word.ensures entry turns word within
    (subst (λ (known : Known). IsKnown entry turns known word) c.in-Word.is k)
