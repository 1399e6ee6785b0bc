use Rattle.std.proofs.Common.{◌≡◌, ◌++◌, flat_map}
use Rattle.text_graph.specs.Clusters.{called_name}
use Rattle.text_graph.specs.Parts.{scene_of}
use Rattle.text_graph.specs.Stretches.{between}
use Rattle.text_graph.proofs.clusters.put_routine_names.Given as goal

abbrev pub invariant-loop-number : goal.invariant-loop-number
invariant-loop-number l =
    l.out.items ++ flat_map (called_name (scene_of l.drawn)) (between l.number l.end) ≡ l.initial.out.items ++ flat_map (called_name (scene_of l.drawn)) (between l.first l.end)
