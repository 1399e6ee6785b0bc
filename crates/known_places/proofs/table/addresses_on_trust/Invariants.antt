use Rattle.std.proofs.Common.{ℕ, ◌<◌}
use Rattle.known_places.specs.Table.{StaysAt}
use Rattle.known_places.proofs.table.addresses_on_trust.Given as goal

abbrev pub invariant-loop-number : goal.invariant-loop-number
invariant-loop-number l =
    (k : ℕ) → k < l.number
    → StaysAt l.handler.image.now l.handler.statement l.handler.graph l.handler.tree l.table.around.now
    l.table.known.now l.trusted.items k
