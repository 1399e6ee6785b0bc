use Rattle.std.proofs.Common.{◌+◌, codes, take}
use Rattle.std.proofs.lemmas.Result.{on_ok_weaker}
use Rattle.text_rows.proofs.ColumnLaws.{four_parts}
use Rattle.text_graph.specs.Clusters.{call_label_by, call_names}
use Rattle.text_graph.specs.Parts.{scene_of}
use Rattle.text_graph.proofs.clusters.put_call.Goals as goal

pub returns : goal.returns
returns c =
    let node = c.args.node in
    on_ok_weaker c.put_call_label_by.result
    (four_parts c.args.out.now.items (codes "subgraph cluster_call") (call_names (take (c.args.depth + 1) node.calls.now)) (codes " { ")
    (call_label_by (scene_of c.args.drawn) node.first node.calls.now c.args.depth) _ _ _ _
    c.in_ok-put.ensures c.in_ok-put_call_names.ensures c.in_ok-put-2.ensures)
    c.put_call_label_by.ensures
