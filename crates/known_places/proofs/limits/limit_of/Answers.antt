use Rattle.known_places.proofs.LimitLemmas.{within_bound}
use Rattle.known_places.proofs.limits.limit_of.Goals as goal

pub returns : goal.returns
returns c = λ walk keeps. within_bound c.args.spans.now c.args.counted c.in-Some.number walk c.in-Some.is c.if-spans-number.false keeps
