use Rattle.std.proofs.Common.{◌≡◌, ◌<◌, ◌+◌, ◌^◌, sum_by}
use Rattle.std.specs.Prelude.{slice_index}
use Rattle.walk_counts.specs.Counts.{capped}
use Rattle.text_graph.specs.Stretches.{between}
use Rattle.text_graph.proofs.stretches.passes.Given as goal

abbrev pub invariant-loop-edge : goal.invariant-loop-edge
invariant-loop-edge l = record {
  small : l.passes < 2 ^ 64;
  same : capped (l.passes + sum_by (slice_index l.drawn.counts.now) (between l.edge l.end)) ≡ capped (sum_by (slice_index l.drawn.counts.now) (between l.first l.end));
}
