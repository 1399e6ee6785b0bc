use Rattle.std.proofs.lemmas.Result.{on_ok_weaker}
use Rattle.text_page.specs.Noting.{noted_in}
use Rattle.text_page.proofs.RowLaws.{row_put}
use Rattle.text_page.proofs.listing.put_row.Goals as goal

pub returns : goal.returns
returns c =
    on_ok_weaker c.put.result
    (row_put (noted_in c.args.notes.now) c.args.row.now c.args.out.now.items c.put_row_front.new.out.items c.put_line_text.new.out.items c.put.new.out.items c.in_ok-put_row_front.ensures c.in_ok-put_line_text.ensures)
    c.put.ensures
