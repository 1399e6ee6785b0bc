use Rattle.std.proofs.Common.{◌≡◌, ◌++◌, flat_map}
use Rattle.text_graph.specs.Stretches.{between}
use Rattle.text_graph.specs.Parts.{scene_of}
use Rattle.text_graph.specs.Text.{drawn_edge}
use Rattle.text_graph.proofs.drawn_edges.put_edges.Given as goal

abbrev pub invariant-loop-number : goal.invariant-loop-number
invariant-loop-number l =
    l.out.items ++ flat_map (drawn_edge (scene_of l.drawn) l.first) (between l.number l.end)
    ≡ l.initial.out.items ++ flat_map (drawn_edge (scene_of l.drawn) l.first) (between l.begin l.end)
