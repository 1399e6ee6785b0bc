use Rattle.std.proofs.Common.{◌≡◌, length}
use Rattle.known_places.proofs.search.proposed.Given as goal

abbrev pub invariant-loop-number : goal.invariant-loop-number
invariant-loop-number l = length l.table.items ≡ l.number
