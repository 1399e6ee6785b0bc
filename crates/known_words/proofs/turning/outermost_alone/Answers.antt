use Rattle.known_words.proofs.TurningLemmas.{outermost_moves}
use Rattle.known_words.proofs.turning.outermost_alone.Goals as goal

pub returns : goal.returns
returns c = λ turns. outermost_moves c.args.steps turns (c.are_zero.ensures c.if-not-are_zero.false)
