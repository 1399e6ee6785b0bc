use Rattle.std.proofs.Common.{◌≡◌, ℕ, ◌<◌, false, get_or}
use Rattle.numbered_walks.specs.Index.{edge_at}
use Rattle.responses.specs.Arriving.{is_before, way_at}
use Rattle.responses.proofs.ways.is_entered.Given as goal

abbrev pub invariant-loop-k : goal.invariant-loop-k
invariant-loop-k l = (n : ℕ) → n < l.k-index
    → is_before (way_at l.ways (edge_at l.edges (get_or l.group n 0)).from) ≡ false
