use Rattle.std.proofs.Common.{bit_and}
use Rattle.std.proofs.lemmas.Nat.{and_le_l}
use Rattle.arm2_effect.specs.Outcomes.{inverted}
use Rattle.known_words.proofs.values.bic_of.Goals as goal

pub returns : goal.returns
returns c = λ entry turns x y carry flags p q.
    c.at_most.ensures entry turns (bit_and x (inverted y)) x p (and_le_l x (inverted y))
