use Rattle.std.proofs.Common.{sym, subst, ◌≤◌, arith}
use Rattle.known_words.specs.Known.{IsKnown}
use Rattle.known_words.proofs.operands.left.Goals as goal
use Rattle.known_words.proofs.ShiftLemmas.{left_number, unshifted}

pub returns-then-amount-eq0 : goal.returns-then-amount-eq0
returns-then-amount-eq0 c = λ entry turns word carry is.
    rw (c.if-amount-eq0.true) (unshifted entry turns c.args.known word is)

pub returns-in-Word : goal.returns-in-Word
returns-in-Word c = λ entry turns word carry is.
    let known = subst (λ k. IsKnown entry turns k word) c.in-Word.is is in
    let below = c.requires in
    let few : c.args.amount ≤ 32 = omega (arith, below) in
    subst (IsKnown entry turns c.doubled.result)
    (sym (left_number c.args.amount c.if-amount-eq0.false word carry few))
    (c.doubled.ensures entry turns word known.1)
