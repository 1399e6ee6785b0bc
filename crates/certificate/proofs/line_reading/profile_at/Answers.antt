use Rattle.std.proofs.Common.{rules, ◌≡◌, ◌∙◌, ◌++◌, ℕ, List, codes, drop, refl, sym, ap, subst}
use Rattle.bus_ticks.specs.Numbers.{profile_one}
use Rattle.certificate.specs.Words.{IsProfile}
use Rattle.certificate.proofs.FieldLaws.{from_none}
use Rattle.certificate.proofs.PriceLaws.{one_prices, profile_made, profile_small}
use Rattle.certificate.proofs.line_reading.profile_at.Goals as goal

pub returns-in_err-prices : goal.returns-in_err-prices
returns-in_err-prices c = from_none _ _ _ c.from_residual-in_err-prices.ensures (λ ns is other e.
    c.in_err-prices.ensures ns is.whole (profile_small ns is) (ap (drop 8) (sym c.in_ok-after_front.ensures ∙ e)))

pub returns-then-eq : goal.returns-then-eq
returns-then-eq c = λ ns is other e.
    let found = c.in_ok-prices.ensures in
    let same : ns ≡ c.in_ok-prices.prices = one_prices ns c.in_ok-prices.prices is.whole found.0 (profile_small ns is) found.1 (sym (sym found.2 ∙ ap (drop 8) (sym c.in_ok-after_front.ensures ∙ e))) in
    let one : c.in_ok-prices.prices ≡ profile_one = search rules in
    other (same ∙ one)

pub returns-in-Err : goal.returns-in-Err
returns-in-Err c = λ ns is other e.
    let found = c.in_ok-prices.ensures in
    let same : ns ≡ c.in_ok-prices.prices = one_prices ns c.in_ok-prices.prices is.whole found.0 (profile_small ns is) found.1 (sym (sym found.2 ∙ ap (drop 8) (sym c.in_ok-after_front.ensures ∙ e))) in
    profile_made c.new.result _ c.in_ok-prices.prices c.in-Err.is c.new.ensures.out_of_range c.new.ensures.disordered (subst IsProfile same is)

pub returns-in-Ok : goal.returns-in-Ok
returns-in-Ok c =
    let found = c.in_ok-prices.ensures in
    let okay = c.in-Ok.ensures.ok refl in
    let other : c.in_ok-prices.prices ≡ profile_one → ⊥ = search rules in
    (record { whole = found.0; ranges = okay.0; ordered = okay.1 }, other, c.in_ok-after_front.ensures ∙ ap (λ (x : List ℕ). codes "profile " ++ x) found.2)
