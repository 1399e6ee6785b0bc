use Rattle.std.proofs.Common.{codes, decimal}
use Rattle.std.proofs.lemmas.Result.{on_ok_weaker}
use Rattle.text_rows.proofs.ColumnLaws.{four_parts}
use Rattle.text_graph.specs.Clusters.{loop_label_by}
use Rattle.text_graph.specs.Parts.{scene_of}
use Rattle.text_graph.proofs.clusters.put_loop.Goals as goal

pub returns : goal.returns
returns c =
    let s = c.args.span.now in
    on_ok_weaker c.put_loop_label_by.result
    (four_parts c.args.out.now.items (codes "subgraph cluster_loop_") (decimal s.header) (codes " { ") (loop_label_by (scene_of c.args.drawn) c.args.first s) _ _ _ _
    c.in_ok-put.ensures c.in_ok-put_decimal.ensures c.in_ok-put-2.ensures)
    c.put_loop_label_by.ensures
