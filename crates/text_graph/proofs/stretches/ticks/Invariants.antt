use Rattle.std.proofs.Common.{◌≡◌, ◌<◌, ◌+◌, ◌^◌, sum_by}
use Rattle.walk_counts.specs.Counts.{capped}
use Rattle.text_graph.specs.Stretches.{between, edge_ticks}
use Rattle.text_graph.proofs.stretches.ticks.Given as goal

abbrev pub invariant-loop-edge : goal.invariant-loop-edge
invariant-loop-edge l = record {
  small : l.ticks < 2 ^ 64;
  same : capped (l.ticks + sum_by (edge_ticks l.drawn.graph.now l.drawn.counts.now) (between l.edge l.end)) ≡ capped (sum_by (edge_ticks l.drawn.graph.now l.drawn.counts.now) (between l.first l.end));
}
