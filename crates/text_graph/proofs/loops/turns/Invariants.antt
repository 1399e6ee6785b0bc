use Rattle.std.proofs.Common.{◌≡◌, ◌<◌, ◌+◌, ◌^◌, sum_by}
use Rattle.walk_counts.specs.Counts.{capped}
use Rattle.text_graph.specs.Clusters.{turns_from}
use Rattle.text_graph.specs.Parts.{scene_of}
use Rattle.text_graph.specs.Stretches.{between}
use Rattle.text_graph.proofs.loops.turns.Given as goal

abbrev pub invariant-loop-number : goal.invariant-loop-number
invariant-loop-number l = record {
  small : l.turns < 2 ^ 64;
  same : capped (l.turns + sum_by (turns_from (scene_of l.drawn) l.span) (between l.number (l.span.last + 1))) ≡ capped (sum_by (turns_from (scene_of l.drawn) l.span) (between l.span.header (l.span.last + 1)));
}
