use Rattle.std.proofs.Common.{◌≡◌, ◌<◌, ℕ, length}
use Rattle.std.specs.Prelude.{IsTrue}
use Rattle.numbered_walks.specs.Index.{span_at}
use Rattle.known_places.specs.Endless.{IsClosed, endless_at}
use Rattle.known_places.proofs.endless.all_closed.Given as goal

abbrev pub invariant-loop-number : goal.invariant-loop-number
invariant-loop-number l =
    (length l.found.items ≡ l.number)
    × ((k : ℕ) → k < l.number → IsTrue (endless_at l.found.items k)
    → IsClosed l.handler.image.now l.handler.graph l.handler.tree l.table.around.now l.table.known.now
    (span_at l.handler.tree.spans k))
