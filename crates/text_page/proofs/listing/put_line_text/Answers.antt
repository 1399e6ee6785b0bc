use Rattle.std.proofs.lemmas.Result.{on_ok_weaker}
use Rattle.text_page.specs.Noting.{noted_in}
use Rattle.text_page.proofs.RowLaws.{link_put}
use Rattle.text_page.proofs.listing.put_line_text.Goals as goal

pub returns : goal.returns
returns c =
    on_ok_weaker c.put_link_end.result
    (link_put (noted_in c.args.notes.now) c.args.row.now c.link_at-link.result c.args.out.now.items c.put_link_begin.new.out.items c.put_shown.new.out.items c.put_link_end.new.out.items
    c.link_at-link.ensures c.in_ok-put_link_begin.ensures c.in_ok-put_shown.ensures)
    c.put_link_end.ensures
