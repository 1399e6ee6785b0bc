use Rattle.std.proofs.Common.{◌∙◌, ◌++◌, codes, flat_map}
use Rattle.std.proofs.lemmas.Result.{on_ok_weaker}
use Rattle.text_rows.proofs.ColumnLaws.{four_parts}
use Rattle.text_graph.specs.Chains.{first_in}
use Rattle.text_graph.specs.Parts.{scene_of}
use Rattle.text_graph.specs.Pieces.{name, node_end}
use Rattle.text_graph.specs.Text.{passed, row, ticks_in}
use Rattle.text_graph.proofs.nodes.put_node.Goals as goal

pub returns : goal.returns
returns c =
    let scene = scene_of c.args.drawn in
    let numbers = c.args.numbers.now in
    let first = first_in numbers in
    on_ok_weaker c.put_node_end.result
    (λ end_is. four_parts c.args.out.now.items (name first) (codes " [label=\"") (flat_map (row scene) numbers)
    (node_end (passed scene first) (ticks_in scene numbers) scene.bound) _ _ _ _
    c.in_ok-put_name.ensures c.in_ok-put.ensures c.in_ok-put_rows.ensures
    (end_is ∙ (λ i. c.put_rows.new.out.items ++ node_end (c.passes.ensures i) (c.stretch_ticks.ensures i) scene.bound)))
    c.put_node_end.ensures
