use Rattle.std.proofs.Common.{ℕ, subst}
use Rattle.known_words.specs.Known.{IsIn, IsKnown}
use Rattle.known_places.specs.Outside.{BeginsOutside, IsKnownOutside}
use Rattle.known_places.proofs.AroundLemmas.{some_as}
use Rattle.known_places.proofs.transfers.known_outside.Goals as goal

pub returns-in-Word : goal.returns-in-Word
returns-in-Word c =
    some_as
    (λ range. (address : ℕ) → IsIn c.in-Word.word.range address → BeginsOutside c.args.class range address)
    (IsKnownOutside c.args.class c.args.lowest) c.outside_from.result
    (λ range begins entry turns address known.
    begins address (subst (λ k. IsKnown entry turns k address) c.in-Word.is known).1)
    c.outside_from.ensures
