use Rattle.std.proofs.Common.{◌≡◌, ◌<◌, ℕ, List, length}
use Rattle.known_places.specs.Destinations.{PlaceGoesTo, destination_at}
use Rattle.known_places.proofs.destination.destinations_in.Given as goal

abbrev pub invariant-loop-number : goal.invariant-loop-number
invariant-loop-number l =
    (length l.found.items ≡ l.number)
    × ((k : ℕ) → k < l.number
    → PlaceGoesTo l.handler.image.now l.handler.graph l.handler.tree l.table k (destination_at l.found.items k))
