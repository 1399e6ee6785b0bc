use Rattle.std.proofs.Common.{◌∙◌, ◌++◌, ap, codes, decimal}
use Rattle.std.proofs.lemmas.Result.{on_ok_weaker}
use Rattle.text_explained.specs.Columns.{thousandths}
use Rattle.text_rows.proofs.ColumnLaws.{seven_parts}
use Rattle.text_graph.specs.Fills.{fill}
use Rattle.text_graph.specs.Pieces.{shared}
use Rattle.text_graph.proofs.pieces.put_node_taken.Goals as goal

pub returns : goal.returns
returns c =
    on_ok_weaker c.put-5.result
    (seven_parts c.args.out.now.items (codes "passes ") (decimal c.args.passes) (codes ", ") (shared c.args.ticks c.args.bound) (codes "\\l\", fillcolor=\"")
    (fill (thousandths c.args.ticks c.args.bound)) (codes "\"];") _ _ _ _ _ _ _ c.in_ok-put.ensures c.in_ok-put_decimal.ensures c.in_ok-put-2.ensures c.in_ok-put_shared.ensures
    c.in_ok-put-3.ensures
    (c.in_ok-put-4.ensures ∙ ap (λ xs. c.put-3.new.out.items ++ xs) (c.fill.ensures ∙ ap fill c.thousandths.ensures)))
    c.put-5.ensures
