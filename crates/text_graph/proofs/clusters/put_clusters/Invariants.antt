use Rattle.std.proofs.Common.{◌≡◌, ◌≤◌, ◌++◌, drop, length}
use Rattle.text_graph.specs.Clusters.{clusters}
use Rattle.text_graph.specs.Parts.{scene_of}
use Rattle.text_graph.proofs.clusters.put_clusters.Given as goal

abbrev pub invariant-loop-span : goal.invariant-loop-span
invariant-loop-span l = record {
  within : l.inside ≤ length l.node.calls.now;
  same : l.out.items ++ clusters (scene_of l.drawn) l.node.first l.node.calls.now l.inside (drop l.span-index l.loops)
      ≡ l.initial.out.items ++ clusters (scene_of l.drawn) l.node.first l.node.calls.now 0 l.loops;
}
