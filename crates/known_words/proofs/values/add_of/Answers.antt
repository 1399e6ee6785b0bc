use Rattle.std.proofs.Common.{◌+◌, ◌%◌, ◌^◌, ◌≡◌, arith}
use Rattle.known_words.proofs.values.add_of.Goals as goal

pub returns : goal.returns
returns c = λ entry turns x y carry flags p q.
    let same : (x + y + 0) % 2 ^ 32 ≡ (x + y) % 2 ^ 32 = omega arith in
    rw same (c.added.ensures entry turns x y p q)
