use Rattle.known_words.proofs.TurningLemmas.{third_moves}
use Rattle.known_words.proofs.turning.third_alone.Goals as goal

pub returns : goal.returns
returns c = λ turns. third_moves c.args.steps turns (c.are_zero.ensures c.if-not-are_zero.false)
