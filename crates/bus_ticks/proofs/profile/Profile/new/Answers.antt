use Rattle.std.proofs.Common.{ℕ, ◌<◌, arith, rules}
use Rattle.bus_ticks.specs.Ranges.{AreInRange, AreOrdered}
use Rattle.bus_ticks.proofs.NumbersLemmas.{one_by_one, price_at}
use Rattle.bus_ticks.proofs.profile.Profile.new.Goals as goal

pub returns-clause-made : goal.returns-clause-made
returns-clause-made c = one_by_one c.args.numbers (omega arith)

pub invariant_of-result : goal.invariant_of-result
invariant_of-result c =
    let in_range : AreInRange c.args.numbers = c.if-not-are_in_range.ensures.0 (search rules) in
    let order : AreOrdered c.args.numbers = c.if-not-are_ordered.ensures.0 (search rules) in
    let price = λ (i : ℕ) (h : i < 14). price_at c.args.numbers i h (omega arith) in_range in
    record {
      n_price = price 0 (omega arith);
      s_price = price 1 (omega arith);
      quad_price = price 2 (omega arith);
      rom_0_price = price 3 (omega arith);
      rom_1_price = price 4 (omega arith);
      rom_2_price = price 5 (omega arith);
      rom_3_price = price 6 (omega arith);
      slow_price = price 7 (omega arith);
      medium_price = price 8 (omega arith);
      fast_price = price 9 (omega arith);
      synchronous_price = price 10 (omega arith);
      control_price = price 11 (omega arith);
      unfitted_price = price 12 (omega arith);
      internal_price = price 13 (omega arith);
      burst_price = in_range.burst;
      s_first = order.s_first;
      quad_second = order.quad_second;
      n_below = order.n_below;
      rom_below = order.rom_below;
      control_below = order.control_below;
    }
