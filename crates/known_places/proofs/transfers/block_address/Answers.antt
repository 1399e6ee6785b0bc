use Rattle.std.proofs.Common.{◌≡◌, ◌+◌, ◌-◌, ◌*◌, ◌/◌, ◌%◌, ◌^◌, ap, arith, subst}
use Rattle.known_words.specs.Known.{IsKnown}
use Rattle.known_places.proofs.transfers.block_address.Goals as goal

pub returns-then-x-3 : goal.returns-then-x-3
returns-then-x-3 c = λ entry turns word known.
    let few = c.requires in
    let size = 4 * c.args.words in
    let same : (word + 2 ^ 32 - size) % 2 ^ 32 ≡ (word + (2 ^ 32 - size)) % 2 ^ 32 = omega (arith, few) in
    rw (c.if-x.false, c.if-x-3.true)
    (subst (IsKnown entry turns c.without_low_bits-then-x-3.result) (ap (λ n. n / 4 * 4) same)
    (c.without_low_bits-then-x-3.ensures entry turns _
    (c.subtracted.ensures entry turns word size known (c.exactly-size.ensures entry turns))))

pub returns : goal.returns
returns c = λ entry turns word known.
    let few = c.requires in
    let size = 4 * c.args.words in
    let same : ((word + 4) % 2 ^ 32 + 2 ^ 32 - size) % 2 ^ 32 ≡ (word + (2 ^ 32 - size + 4)) % 2 ^ 32
    = omega (arith, few) in
    rw (c.if-x.false, c.if-x-3.false)
    (subst (IsKnown entry turns c.without_low_bits-2.result) (ap (λ n. n / 4 * 4) same)
    (c.without_low_bits-2.ensures entry turns _
    (c.subtracted-2.ensures entry turns ((word + 4) % 2 ^ 32) size
    (c.added-above.ensures entry turns word 4 known (c.exactly.ensures entry turns))
    (c.exactly-size.ensures entry turns))))
