-- The walks of a handler that count for its bound, and the greatest cost of one.
use Rattle.std.specs.Prelude.{ℕ, List}
use Rattle.walks.specs.Walk.{Leads}
use Rattle.walks.specs.Greatest.{KeepsBounds, IsGreatest, TooLarge}
use Rattle.control_flow.specs.declared.places.Place.TheVariants.{Exit}
use Rattle.control_flow.specs.declared.edges.Edge.{Edge}
use Rattle.statement.specs.Stated.{StatedLoops}
use Rattle.control_flow.specs.Flow.{Flow, edge_shape, HasEdge}
use Rattle.loop_bounds.specs.Instance.{IsInstance, place_loops}

-- consecutive edges of the flow graph from its entry to Exit
abbrev pub IsCompleteWalk : Flow → List Edge → Type 0
IsCompleteWalk flow walk = Leads edge_shape (HasEdge flow) flow.entry walk Exit

-- each stay of the walk in an instance of a stated loop takes at most the loop's bound of back edges
abbrev pub KeepsTheBounds : Flow → StatedLoops → List Edge → Type 0
KeepsTheBounds flow loops walk = KeepsBounds edge_shape place_loops (IsInstance flow loops) walk

-- some complete walk that keeps the bounds costs n ticks, and none costs more
abbrev pub IsGreatestCost : Flow → StatedLoops → ℕ → Type 0
IsGreatestCost flow loops n =
    IsGreatest edge_shape (HasEdge flow) (KeepsTheBounds flow loops) flow.entry Exit n

-- some walk from the entry, wherever it ends, keeps the bounds and costs 2^63 ticks or more
abbrev pub IsTooLarge : Flow → StatedLoops → Type 0
IsTooLarge flow loops = TooLarge edge_shape (HasEdge flow) (KeepsTheBounds flow loops) flow.entry Exit
