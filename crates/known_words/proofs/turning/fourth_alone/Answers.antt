use Rattle.known_words.proofs.TurningLemmas.{fourth_moves}
use Rattle.known_words.proofs.turning.fourth_alone.Goals as goal

pub returns : goal.returns
returns c = λ turns. fourth_moves c.args.steps turns (c.are_zero.ensures c.if-not-are_zero.false)
