use Rattle.std.proofs.lemmas.Result.{on_ok_weaker}
use Rattle.text_explained.proofs.ColumnLaws.{ending}
use Rattle.text_explained.proofs.cost_columns.put_ending.Goals as goal

pub returns : goal.returns
returns c =
    on_ok_weaker c.put.result
    (ending c.args.width c.saturating_sub.result c.args.text.now c.args.out.now.items c.put_blanks.new.out.items c.put.new.out.items c.saturating_sub.ensures c.in_ok-put_blanks.ensures)
    c.put.ensures
