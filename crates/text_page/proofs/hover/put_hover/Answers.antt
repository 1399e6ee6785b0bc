use Rattle.std.proofs.lemmas.Result.{on_ok_weaker}
use Rattle.text_rows.proofs.ColumnLaws.{five_parts}
use Rattle.text_page.specs.Noting.{noted_in}
use Rattle.text_page.specs.Rows.{begins_text, line_text, priced_text, stated_text, taken_text}
use Rattle.text_page.proofs.hover.put_hover.Goals as goal

pub returns : goal.returns
returns c =
    let row = c.args.row.now in
    on_ok_weaker c.put_stated.result
    (five_parts c.args.out.now.items (line_text row.line) (taken_text row.figures.taken) (priced_text row.figures.pricing) (begins_text row.figures.latest) (stated_text (noted_in c.args.notes.now) row.at)
    c.put_line.new.out.items c.put_taken.new.out.items c.put_priced.new.out.items c.put_begins.new.out.items c.put_stated.new.out.items
    c.in_ok-put_line.ensures c.in_ok-put_taken.ensures c.in_ok-put_priced.ensures c.in_ok-put_begins.ensures)
    c.put_stated.ensures
