use Rattle.std.proofs.Common.{codes}
use Rattle.std.proofs.lemmas.Result.{on_ok_weaker}
use Rattle.text_rows.proofs.ColumnLaws.{four_parts}
use Rattle.text_graph.specs.Pieces.{edge_name, times}
use Rattle.text_graph.proofs.pieces.put_edge_taken.Goals as goal

pub returns : goal.returns
returns c =
    on_ok_weaker c.put-2.result
    (four_parts c.args.out.now.items (codes " [label=\" ") (edge_name c.args.label) (times c.args.count c.args.cost) (codes "\", style=bold];\n") _ _ _ _
    c.in_ok-put.ensures c.in_ok-put_edge_name.ensures c.in_ok-put_times.ensures)
    c.put-2.ensures
