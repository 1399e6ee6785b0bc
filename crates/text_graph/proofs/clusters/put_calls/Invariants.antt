use Rattle.std.proofs.Common.{◌≡◌, ◌++◌}
use Rattle.text_graph.specs.Clusters.{call_texts}
use Rattle.text_graph.specs.Parts.{scene_of}
use Rattle.text_graph.proofs.clusters.put_calls.Given as goal

abbrev pub invariant-loop-depth : goal.invariant-loop-depth
invariant-loop-depth l =
    l.out.items ++ call_texts (scene_of l.drawn) l.node.first l.node.calls.now l.depth l.to
    ≡ l.initial.out.items ++ call_texts (scene_of l.drawn) l.node.first l.node.calls.now l.from l.to
