use Rattle.std.proofs.Common.{bit_or, arith}
use Rattle.std.specs.Int.Bits.{or_add_and}
use Rattle.known_words.proofs.values.orr_of.Goals as goal

pub returns-in-Some : goal.returns-in-Some
returns-in-Some c = λ entry turns x y carry flags p q.
    let most = c.in-Some.ensures entry turns x y p q in
    let parts = or_add_and x y in
    c.between.ensures entry turns (bit_or x y) (omega arith) (omega (arith, most, parts))
