use Rattle.std.proofs.Common.{◌≡◌, ◌<◌, ◌+◌, ◌^◌, drop, sum_by}
use Rattle.walk_counts.specs.Counts.{capped}
use Rattle.text_graph.specs.Stretches.{stretch_ticks, ticks}
use Rattle.text_graph.proofs.stretches.stretch_ticks.Given as goal

abbrev pub invariant-loop-number : goal.invariant-loop-number
invariant-loop-number l = record {
  small : l.all < 2 ^ 64;
  same : capped (l.all + sum_by (ticks l.drawn.graph.now l.drawn.tree.now l.drawn.counts.now) (drop l.number-index l.numbers)) ≡ stretch_ticks l.drawn.graph.now l.drawn.tree.now l.drawn.counts.now l.numbers;
}
