use Rattle.std.proofs.Common.{◌≡◌, ◌≤◌, true, length}
use Rattle.std.specs.Prelude.{reverse}
use Rattle.numbered_walks.specs.Reach.{holds_in}
use Rattle.longest_walk.specs.Ways.{IsWay}
use Rattle.longest_walk.proofs.trace.trace.Given as goal

abbrev pub invariant-loop-here : goal.invariant-loop-here
invariant-loop-here l = record {
  inside : holds_in l.fn.context l.here ≡ true;
  known : l.here ≤ length l.search.graph.now.places;
  way : IsWay l.search.tree.now.edges l.search.tree.now.spans l.search.tables.now l.fn.context l.here (reverse l.way.items) l.fn.number;
}

abbrev pub decreases-loop-here : goal.decreases-loop-here
decreases-loop-here l = l.here
