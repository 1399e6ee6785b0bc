use Rattle.std.proofs.Common.{◌∙◌, ◌++◌, ap, codes}
use Rattle.std.specs.Prelude.{decimal}
use Rattle.std.proofs.lemmas.Result.{on_ok_weaker}
use Rattle.text_explained.specs.Printed.{row_name, things, why_folded}
use Rattle.text_rows.proofs.ColumnLaws.{seven_parts}
use Rattle.text_explained.proofs.printed_rows.put_fold.Goals as goal

pub returns : goal.returns
returns c =
    let f = c.args.fold.now in
    on_ok_weaker c.put-4.result
    (seven_parts c.args.out.now.items (decimal f.count) (things f.first.line) (why_folded f.first.figures.taken) (row_name f.first) (codes " to ") (row_name f.last) (codes "\n")
    c.put_decimal.new.out.items c.put.new.out.items c.put-2.new.out.items c.put_line_name.new.out.items c.put-3.new.out.items c.put_line_name-2.new.out.items c.put-4.new.out.items
    c.in_ok-put_decimal.ensures (c.in_ok-put.ensures ∙ ap (λ xs. c.put_decimal.new.out.items ++ xs) c.things.ensures)
    (c.in_ok-put-2.ensures ∙ ap (λ xs. c.put.new.out.items ++ xs) c.why_folded.ensures) c.in_ok-put_line_name.ensures c.in_ok-put-3.ensures c.in_ok-put_line_name-2.ensures)
    c.put-4.ensures
