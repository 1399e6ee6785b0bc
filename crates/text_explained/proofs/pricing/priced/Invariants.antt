use Rattle.std.proofs.Common.{take}
use Rattle.std.specs.BTreeMap.{get}
use Rattle.std.specs.BTreeSet.{contains}
use Rattle.std.specs.Ordering.{nat_cmp}
use Rattle.text_explained.proofs.PricingLaws.{ArePricedSoFar}
use Rattle.text_explained.proofs.pricing.priced.Given as goal

abbrev pub invariant-loop-place : goal.invariant-loop-place
invariant-loop-place l =
    ArePricedSoFar l.handler.image.now l.handler.statement (contains nat_cmp l.leaving) (take l.place-index l.place-items) (get nat_cmp l.prices)
