use Rattle.std.proofs.Common.{ℕ, ◌≤◌, ◌≡◌, ◌+◌, List}
use Rattle.known_words.specs.Known.{turned}
use Rattle.known_places.specs.Limits.{AreWithin}
use Rattle.known_places.proofs.AroundLemmas.{some_as}
use Rattle.known_places.proofs.LimitLemmas.{turned_most}
use Rattle.known_places.proofs.limits.most_turned.Goals as goal

pub returns : goal.returns
returns c =
    let a = c.in-Some.outermost in
    let b = c.in-Some-checked_mul.second in
    let d = c.in-Some-checked_mul-2.third in
    let e = c.in-Some-checked_mul-3.fourth in
    some_as (λ sum. sum ≡ a + b + d + e)
    (λ most. (turns : List ℕ) → AreWithin c.args.limits turns → turned c.args.steps turns ≤ most) c.sum_of.result
    (λ most is turns within.
    turned_most c.args.steps c.args.limits turns a b d e most (c.in-Some.ensures).1 (c.in-Some-checked_mul.ensures).1
    (c.in-Some-checked_mul-2.ensures).1 (c.in-Some-checked_mul-3.ensures).1 is within)
    c.sum_of.ensures
