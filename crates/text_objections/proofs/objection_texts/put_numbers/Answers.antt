use Rattle.std.proofs.Common.{codes, decimal}
use Rattle.std.proofs.lemmas.Result.{on_ok_weaker}
use Rattle.text_rows.proofs.ColumnLaws.{five_parts}
use Rattle.text_objections.proofs.objection_texts.put_numbers.Goals as goal

pub returns : goal.returns
returns c =
    let row = c.args.row.now in
    on_ok_weaker c.put-3.result
    (five_parts c.args.out.now.items (codes "  ") (decimal row.stated) (codes " is less than ") (decimal row.needed) (codes "\n")
    c.put.new.out.items c.put_decimal.new.out.items c.put-2.new.out.items c.put_decimal-2.new.out.items c.put-3.new.out.items
    c.in_ok-put.ensures c.in_ok-put_decimal.ensures c.in_ok-put-2.ensures c.in_ok-put_decimal-2.ensures)
    c.put-3.ensures
