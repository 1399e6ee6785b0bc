use Rattle.std.proofs.Common.{sym, subst, ◌≤◌, ◌<◌, ◌^◌, arith}
use Rattle.known_words.specs.Known.{IsKnown}
use Rattle.known_words.proofs.operands.right.Goals as goal
use Rattle.known_words.proofs.ShiftLemmas.{right_number}

pub returns-in-Word : goal.returns-in-Word
returns-in-Word c = λ entry turns word carry is.
    let known = subst (λ k. IsKnown entry turns k word) c.in-Word.is is in
    let sum = known.0.is in
    let word_below : word < 2 ^ 32 = omega (arith, sum) in
    let below = c.requires in
    let few : c.args.amount ≤ 32 = omega (arith, below) in
    subst (IsKnown entry turns c.halved.result)
    (sym (right_number c.args.amount c.if-amount-eq0.false word carry few word_below))
    (c.halved.ensures entry turns word known.1)
