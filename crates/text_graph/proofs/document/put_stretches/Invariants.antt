use Rattle.std.proofs.Common.{◌≡◌, ◌++◌, flat_map, length}
use Rattle.text_graph.specs.Stretches.{between}
use Rattle.text_graph.specs.Parts.{scene_of}
use Rattle.text_graph.specs.Text.{begun}
use Rattle.text_graph.proofs.document.put_stretches.Given as goal

abbrev pub invariant-loop-number : goal.invariant-loop-number
invariant-loop-number l =
    l.out.items ++ flat_map (begun (scene_of l.drawn)) (between l.number (length l.drawn.graph.now.places))
    ≡ l.initial.out.items ++ flat_map (begun (scene_of l.drawn)) (between 0 (length l.drawn.graph.now.places))
