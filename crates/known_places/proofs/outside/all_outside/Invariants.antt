use Rattle.std.proofs.Common.{◌≡◌, ◌<◌, ℕ, List, length}
use Rattle.std.specs.Prelude.{IfSome}
use Rattle.known_places.specs.Outside.{PlaceGoesOutside, outside_at}
use Rattle.known_places.proofs.outside.all_outside.Given as goal

abbrev pub invariant-loop-number : goal.invariant-loop-number
invariant-loop-number l =
    (length l.found.items ≡ l.number)
    × ((k : ℕ) → k < l.number
    → IfSome (outside_at l.found.items k)
    (PlaceGoesOutside l.handler.image.now l.handler.statement l.handler.graph l.handler.tree l.table.around.now l.table.known.now k))
