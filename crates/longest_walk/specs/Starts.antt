-- The worst times until places begin.
use Rattle.std.specs.Prelude.{ℕ, List}
use Rattle.std.specs.List.{AllZip}
use Rattle.walks.specs.Greatest.{IsGreatest}
use Rattle.control_flow.specs.Flow.{Flow, HasEdge, edge_shape}
use Rattle.control_flow.specs.declared.places.Place.{Place}
use Rattle.loop_bounds.specs.Tree.{Tree}
use Rattle.longest_walk.specs.Longest.{KeepsTree}

-- no walk from the entry to the place that keeps the loop bounds costs more ticks, and one costs as many
abbrev pub IsWorstStart : Flow → Tree → Place → ℕ → Type 0
IsWorstStart flow tree place ticks =
    IsGreatest edge_shape (HasEdge flow) (KeepsTree tree) flow.entry place ticks

-- so it is of each place of the graph, in their order
abbrev pub AreWorstStarts : Flow → Tree → List ℕ → Type 0
AreWorstStarts flow tree starts = AllZip (IsWorstStart flow tree) flow.places starts
