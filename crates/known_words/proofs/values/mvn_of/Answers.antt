use Rattle.std.proofs.Common.{◌+◌, ◌-◌, ◌%◌, ◌^◌, ◌≡◌, subst, arith}
use Rattle.known_words.specs.Known.{IsKnown}
use Rattle.known_words.proofs.values.mvn_of.Goals as goal

pub returns-in-Word : goal.returns-in-Word
returns-in-Word c = λ first entry turns x y carry flags p q.
    let word = subst (λ k. IsKnown entry turns k y) c.in-Word.is q in
    let is = word.0.is in
    let same : 2 ^ 32 - 1 - y ≡ (2 ^ 32 - 1 + 2 ^ 32 - y) % 2 ^ 32 = omega (arith, is) in
    rw same (c.subtracted.ensures entry turns (2 ^ 32 - 1) y (c.exactly.ensures entry turns) q)
