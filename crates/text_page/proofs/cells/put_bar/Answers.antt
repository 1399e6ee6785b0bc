use Rattle.std.proofs.Common.{◌∙◌, ◌++◌, ap, codes}
use Rattle.std.proofs.lemmas.Result.{on_ok_weaker}
use Rattle.text_rows.proofs.ColumnLaws.{five_parts}
use Rattle.text_explained.specs.Columns.{share_text, thousandths}
use Rattle.text_graph.specs.Fills.{fill}
use Rattle.text_page.proofs.cells.put_bar.Goals as goal

pub returns : goal.returns
returns c =
    let share = share_text c.args.ticks c.args.bound in
    let shade = fill (thousandths c.args.ticks c.args.bound) in
    let filled = c.in_ok-put-3.ensures ∙ ap (λ xs. c.put-2.new.out.items ++ xs) c.share_fill.ensures in
    on_ok_weaker c.put-4.result
    (five_parts c.args.out.now.items (codes "<span class=\"bar\"><i style=\"width:") share (codes ";background:") shade (codes "\"></i></span>")
    c.put.new.out.items c.put_share.new.out.items c.put-2.new.out.items c.put-3.new.out.items c.put-4.new.out.items c.in_ok-put.ensures c.in_ok-put_share.ensures c.in_ok-put-2.ensures filled)
    c.put-4.ensures
