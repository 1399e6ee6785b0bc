use Rattle.std.proofs.Common.{◌≡◌, ◌<◌, ◌+◌, ◌^◌, sum_by}
use Rattle.walk_counts.specs.Counts.{capped}
use Rattle.text_graph.specs.Clusters.{back_count}
use Rattle.text_graph.specs.Parts.{scene_of}
use Rattle.text_graph.specs.Stretches.{between}
use Rattle.text_graph.proofs.loops.turns_from.Given as goal

abbrev pub invariant-loop-edge : goal.invariant-loop-edge
invariant-loop-edge l = record {
  small : l.turns < 2 ^ 64;
  same : capped (l.turns + sum_by (back_count (scene_of l.drawn) l.span) (between l.edge l.end)) ≡ capped (sum_by (back_count (scene_of l.drawn) l.span) (between l.first l.end));
}
