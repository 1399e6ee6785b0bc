use Rattle.std.proofs.Common.{rules}
use Rattle.bus_ticks.proofs.profile.are_in_range.Goals as goal

pub returns-then-are_prices : goal.returns-then-are_prices
returns-then-are_prices c =
    (λ t. record { prices = c.if-are_prices.ensures.0 (search rules); burst = search rules }, λ h. search rules)
