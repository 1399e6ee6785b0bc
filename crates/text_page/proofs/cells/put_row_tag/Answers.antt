use Rattle.std.proofs.Common.{◌∙◌, ◌++◌, ap, codes}
use Rattle.std.proofs.lemmas.Result.{on_ok_weaker}
use Rattle.text_rows.proofs.ColumnLaws.{seven_parts}
use Rattle.text_page.specs.Noting.{noted_in}
use Rattle.text_page.specs.Rows.{anchor, hover_text, row_class}
use Rattle.text_page.proofs.cells.put_row_tag.Goals as goal

pub returns : goal.returns
returns c =
    let row = c.args.row.now in
    let class = c.in_ok-put-2.ensures ∙ ap (λ xs. c.put.new.out.items ++ xs) c.row_class.ensures in
    on_ok_weaker c.put-5.result
    (seven_parts c.args.out.now.items (codes "<div class=\"") (row_class row.figures.taken) (codes "\" id=\"") (anchor row.at) (codes "\" title=\"") (hover_text (noted_in c.args.notes.now) row) (codes "\">")
    c.put.new.out.items c.put-2.new.out.items c.put-3.new.out.items c.put_anchor.new.out.items c.put-4.new.out.items c.put_hover.new.out.items c.put-5.new.out.items
    c.in_ok-put.ensures class c.in_ok-put-3.ensures c.in_ok-put_anchor.ensures c.in_ok-put-4.ensures c.in_ok-put_hover.ensures)
    c.put-5.ensures
