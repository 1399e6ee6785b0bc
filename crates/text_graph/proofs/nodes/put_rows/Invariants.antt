use Rattle.std.proofs.Common.{◌≡◌, ◌++◌, drop, flat_map}
use Rattle.text_graph.specs.Parts.{scene_of}
use Rattle.text_graph.specs.Text.{row}
use Rattle.text_graph.proofs.nodes.put_rows.Given as goal

abbrev pub invariant-loop-number : goal.invariant-loop-number
invariant-loop-number l =
    l.out.items ++ flat_map (row (scene_of l.drawn)) (drop l.number-index l.numbers)
    ≡ l.initial.out.items ++ flat_map (row (scene_of l.drawn)) l.numbers
