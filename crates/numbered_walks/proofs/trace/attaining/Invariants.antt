use Rattle.std.proofs.Common.{◌≡◌, ◌≢◌, All, take, Contains, MatchOption}
use Rattle.numbered_walks.specs.Index.{edge_at}
use Rattle.numbered_walks.specs.Tables.{needed}
use Rattle.numbered_walks.proofs.trace.attaining.Given as goal

-- none of the edges so far, or one of them
abbrev pub invariant-loop-k : goal.invariant-loop-k
invariant-loop-k l =
    MatchOption l.found
    (All (λ k. needed l.graph.spans.now l.tables (edge_at l.graph.edges.now k) ≢ l.ticks)
    (take l.k-index l.group))
    (λ k. Contains l.group k × (needed l.graph.spans.now l.tables (edge_at l.graph.edges.now k) ≡ l.ticks))
