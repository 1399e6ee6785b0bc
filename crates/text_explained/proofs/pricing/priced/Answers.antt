use Rattle.std.proofs.Common.{refl, subst}
use Rattle.std.specs.BTreeMap.{get}
use Rattle.std.specs.BTreeSet.{contains}
use Rattle.std.specs.Ordering.{nat_cmp}
use Rattle.control_flow.specs.declared.places.Place.{Place}
use Rattle.text_explained.specs.PricingParts.{Prices}
use Rattle.text_explained.proofs.PricingLaws.{all_priced, more_priced, none_priced}
use Rattle.text_explained.proofs.pricing.priced.Goals as goal

pub loop-place-init : goal.loop-place-init
loop-place-init c = none_priced c.args.handler.now.image.now c.args.handler.now.statement (contains nat_cmp c.in_ok-leaving.leaving) (get nat_cmp c.new-prices.result)
    (λ a. rw c.new-prices.ensures.empty refl)

pub loop-place-preserved : goal.loop-place-preserved
loop-place-preserved c =
    let words = c.args.handler.now.image.now in
    let st = c.args.handler.now.statement in
    let leaving = contains nat_cmp c.in_ok-leaving.leaving in
    more_priced words st leaving c.places-place-items.result.now c.loop-place.place-index c.place-item.result
    (get nat_cmp c.loop-place.prices) (get nat_cmp c.put_pricing_of.new.prices) c.loop-place-test.true c.loop-place.invariant
    (subst (λ (p : Place). Prices words st leaving p (get nat_cmp c.loop-place.prices) (get nat_cmp c.put_pricing_of.new.prices)) c.place-item.is
    c.in_ok-put_pricing_of.ensures)

pub returns : goal.returns
returns c =
    all_priced c.args.handler.now.image.now c.args.handler.now.statement (contains nat_cmp c.in_ok-leaving.leaving) c.args.handler.now.graph
    c.places-place-items.result.now c.loop-place.place-index (get nat_cmp c.loop-place.prices) c.places-place-items.ensures.value
    c.loop-place-test.false c.in_ok-leaving.ensures c.loop-place.invariant
