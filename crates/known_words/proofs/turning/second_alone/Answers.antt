use Rattle.known_words.proofs.TurningLemmas.{second_moves}
use Rattle.known_words.proofs.turning.second_alone.Goals as goal

pub returns : goal.returns
returns c = λ turns. second_moves c.args.steps turns (c.are_zero.ensures c.if-not-are_zero.false)
