use Rattle.std.proofs.Common.{bit_and}
use Rattle.std.proofs.lemmas.Nat.{and_le_l}
use Rattle.known_words.proofs.values.and_of.Goals as goal

pub returns-in_default : goal.returns-in_default
returns-in_default c = λ entry turns x y carry flags p q.
    c.at_most-in_default.ensures entry turns (bit_and x y) x p (and_le_l x y)
