use Rattle.std.proofs.Common.{◌+◌, ◌-◌, ◌%◌, ◌^◌, ◌≡◌, subst, arith}
use Rattle.known_words.specs.Known.{IsKnown}
use Rattle.known_words.proofs.transfers.moved.Goals as goal

pub returns-in-Word : goal.returns-in-Word
returns-in-Word c = λ entry turns x y p q.
    let word = subst (λ k. IsKnown entry turns k y) c.in-Word.is q in
    let is = word.0.is in
    let same : (x + (2 ^ 32 - y)) % 2 ^ 32 ≡ (x + 2 ^ 32 - y) % 2 ^ 32 = omega (arith, is) in
    rw (c.if-up.false) (rw same (c.subtracted.ensures entry turns x y p q))
