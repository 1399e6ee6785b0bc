use Rattle.known_places.proofs.LimitLemmas.{lowered_most}
use Rattle.known_places.proofs.limits.most_lowered.Goals as goal

pub returns : goal.returns
returns c =
    lowered_most c.args.step c.wrapping_neg.result c.args.limit c.checked_mul.result c.ranges.step.fits
    c.wrapping_neg.type_inv c.wrapping_neg.ensures c.checked_mul.ensures
