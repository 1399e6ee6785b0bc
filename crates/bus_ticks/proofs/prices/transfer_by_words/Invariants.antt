use Rattle.std.proofs.Common.{◌≡◌, ◌*◌, ◌≤◌}
use Rattle.bus_ticks.specs.Prices.{transfer}
use Rattle.bus_ticks.proofs.prices.transfer_by_words.Given as goal

abbrev pub invariant-loop-i : goal.invariant-loop-i
invariant-loop-i l = (l.ticks ≡ transfer l.fn.profile l.address l.i l.store l.rom) × (l.ticks ≤ 255 * l.i)
