use Rattle.std.specs.Prelude.{take}
use Rattle.std.specs.List.{AllZip}
use Rattle.longest_walk.specs.Starts.{IsWorstStart}
use Rattle.longest_walk.proofs.starts.worst_starts.Given as goal

abbrev pub invariant-loop-place : goal.invariant-loop-place
invariant-loop-place l = AllZip (IsWorstStart l.graph l.tree) (take l.place l.graph.places) l.starts.items
