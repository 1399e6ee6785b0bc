use Rattle.std.proofs.Common.{ℕ, ◌≡◌, ◌+◌, List}
use Rattle.known_words.specs.Known.{turned}
use Rattle.known_places.specs.Limits.{AreWithin, Lowers}
use Rattle.known_places.proofs.AroundLemmas.{some_as}
use Rattle.known_places.proofs.LimitLemmas.{four_lowered}
use Rattle.known_places.proofs.limits.most_fallen.Goals as goal

pub returns : goal.returns
returns c =
    let a = c.in-Some.outermost in
    let b = c.in-Some-most_lowered.second in
    let d = c.in-Some-most_lowered-2.third in
    let e = c.in-Some-most_lowered-3.fourth in
    some_as (λ sum. sum ≡ a + b + d + e)
    (λ most. (turns : List ℕ) → AreWithin c.args.limits turns → Lowers (turned c.args.steps turns) most) c.sum_of.result
    (λ most is turns within.
    four_lowered c.args.steps c.args.limits turns a b d e most c.in-Some.ensures c.in-Some-most_lowered.ensures
    c.in-Some-most_lowered-2.ensures c.in-Some-most_lowered-3.ensures is within)
    c.sum_of.ensures
