use Rattle.std.proofs.lemmas.Result.{on_ok_weaker}
use Rattle.text_rows.proofs.ColumnLaws.{right}
use Rattle.text_rows.proofs.text_columns.put_right.Goals as goal

pub returns : goal.returns
returns c =
    on_ok_weaker c.put-2.result
    (right c.args.width c.saturating_sub.result c.args.text.now c.args.out.now.items c.put.new.out.items c.put-2.new.out.items c.requires c.saturating_sub.ensures c.in_ok-put.ensures)
    c.put-2.ensures
