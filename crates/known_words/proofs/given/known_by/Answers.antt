use Rattle.std.proofs.Common.{◌≡◌, arith, subst, sym}
use Rattle.arm2_effect.specs.Operands.{current_in}
use Rattle.known_words.specs.Known.{IsKnown}
use Rattle.known_words.proofs.given.known_by.Goals as goal

pub returns-then-given : goal.returns-then-given
returns-then-given c = λ entry turns fits low high.
    let word = current_in c.args.given.register entry in
    let same : c.args.given.low ≡ word = omega (arith, low, high, c.if-given.true) in
    subst (IsKnown entry turns c.exactly.result) same (c.exactly.ensures entry turns)
