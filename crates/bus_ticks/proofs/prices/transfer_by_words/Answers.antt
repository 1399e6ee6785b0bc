use Rattle.std.proofs.Common.{◌≡◌, suc, ◌+◌, refl, arith}
use Rattle.bus_ticks.specs.Prices.{transfer}
use Rattle.bus_ticks.proofs.prices.transfer_by_words.Goals as goal

-- src/prices.rt:126:5
pub loop-i-preserved : goal.loop-i-preserved
unfolding transfer
loop-i-preserved c =
    let next : c.loop-i.i + 1 ≡ suc c.loop-i.i = omega arith in
    let ticks = c.loop-i.invariant.0 in
    let price = c.word_price-ticks.ensures.price in
    let small = c.word_price-ticks.ensures.small in
    let most = c.loop-i.invariant.1 in
    (rw (next, ticks, price, c.word_address.ensures.address) refl, omega (arith, most, small))
