use Rattle.std.proofs.Common.{take}
use Rattle.longest_walk.specs.Folded.{unfolded}
use Rattle.walk_counts.specs.Counts.{Counts}
use Rattle.walk_counts.proofs.counting.+walk.Given as goal

abbrev pub invariant-count_items-loop-item : goal.invariant-count_items-loop-item
invariant-count_items-loop-item l = Counts l.graph.edges (unfolded (take l.item-index l.items)) l.times l.initial.counts l.counts
