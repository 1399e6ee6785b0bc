use Rattle.std.proofs.Common.{◌+◌, ◌-◌, ◌%◌, ◌^◌, ◌≡◌, arith}
use Rattle.known_words.proofs.values.rsb_of.Goals as goal

pub returns : goal.returns
returns c = λ entry turns x y carry flags p q.
    let same : (y + 2 ^ 32 - (x + 0)) % 2 ^ 32 ≡ (y + 2 ^ 32 - x) % 2 ^ 32 = omega arith in
    rw same (c.subtracted.ensures entry turns y x q p)
