use Rattle.std.proofs.Common.{◌≡◌, drop, map}
use Rattle.std.specs.Prelude.{◌||◌}
use Rattle.text_listing.specs.ListOrder.{falls_from}
use Rattle.text_listing.proofs.list_order.falls.Given as goal

-- what is left to read adds what the whole has
abbrev pub invariant-loop-name : goal.invariant-loop-name
invariant-loop-name l = (l.falls || falls_from l.before (map (λ n. n.now) (drop l.name-index l.names))) ≡ falls_from 0 (map (λ n. n.now) l.names)
