use Rattle.std.proofs.Common.{◌≡◌, ◌<◌, ◌+◌, ◌^◌, sum_by}
use Rattle.walk_counts.specs.Counts.{capped}
use Rattle.text_graph.specs.Stretches.{between, ticks}
use Rattle.text_graph.proofs.loops.loop_ticks.Given as goal

abbrev pub invariant-loop-number : goal.invariant-loop-number
invariant-loop-number l = record {
  small : l.all < 2 ^ 64;
  same : capped (l.all + sum_by (ticks l.drawn.graph.now l.drawn.tree.now l.drawn.counts.now) (between l.number (l.span.last + 1))) ≡ capped (sum_by (ticks l.drawn.graph.now l.drawn.tree.now l.drawn.counts.now) (between l.span.header (l.span.last + 1)));
}
