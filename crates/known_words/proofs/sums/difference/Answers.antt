use Rattle.known_words.proofs.sums.difference.Goals as goal
use Rattle.known_words.proofs.SumLemmas.{difference_times}

pub returns : goal.returns
returns c = λ times. difference_times c.args.first c.args.second times c.ranges.second.fits
