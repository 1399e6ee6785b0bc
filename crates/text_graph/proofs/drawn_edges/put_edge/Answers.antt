use Rattle.std.proofs.Common.{◌∙◌, ◌++◌, ap, codes, get_or}
use Rattle.std.proofs.lemmas.Result.{on_ok_weaker}
use Rattle.control_flow.specs.declared.edges.Edge.{Edge}
use Rattle.longest_walk.specs.Built.{step_at}
use Rattle.numbered_walks.specs.Index.{edge_at}
use Rattle.text_rows.proofs.ColumnLaws.{four_parts}
use Rattle.text_graph.specs.Pieces.{edge_end, name}
use Rattle.text_graph.proofs.drawn_edges.put_edge.Goals as goal

pub returns : goal.returns
returns c =
    let d = c.args.drawn in
    let k = c.args.number in
    let e = step_at d.graph.now.edges k in
    let is = c.edge_of-edge.ensures in
    on_ok_weaker c.put_edge_end.result
    (λ end_is. four_parts c.args.out.now.items (name c.args.first) (codes " -> ") (name (edge_at d.tree.now.edges k).to)
    (edge_end e.label (get_or d.counts.now k 0) e.cost) _ _ _ _
    c.in_ok-put_name.ensures c.in_ok-put.ensures
    (c.in_ok-put_name-2.ensures ∙ ap (λ n. c.put.new.out.items ++ name n) is.to)
    (end_is
    ∙ (λ i. c.put_name-2.new.out.items ++ edge_end (is.edge i).label (c.count_of.ensures i) (is.edge i).cost)))
    c.put_edge_end.ensures
