use Rattle.std.proofs.Common.{codes, flat_map}
use Rattle.std.proofs.lemmas.Result.{on_ok_weaker}
use Rattle.text_rows.proofs.ColumnLaws.{five_parts}
use Rattle.text_graph.specs.Chains.{first_in, last_in}
use Rattle.text_graph.specs.Clusters.{closed, opened}
use Rattle.text_graph.specs.Stretches.{leaving}
use Rattle.text_graph.specs.Parts.{scene_of}
use Rattle.text_graph.specs.Text.{drawn_edge, node}
use Rattle.text_graph.proofs.nodes.put_stretch.Goals as goal

pub returns : goal.returns
returns c =
    let d = c.args.drawn in
    let numbers = c.args.numbers.now in
    let first = first_in numbers in
    on_ok_weaker c.put_edges.result
    (five_parts c.args.out.now.items (opened (scene_of d) first) (node (scene_of d) numbers)
    (closed (scene_of d) first) (codes "\n") (flat_map (drawn_edge (scene_of d) first) (leaving d.graph.now d.tree.now (last_in numbers)))
    _ _ _ _ _ c.in_ok-put_opened.ensures c.in_ok-put_node.ensures c.in_ok-put_closed.ensures c.in_ok-put.ensures)
    c.put_edges.ensures
