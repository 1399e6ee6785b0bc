use Rattle.std.proofs.Common.{◌++◌}
use Rattle.std.proofs.lemmas.Result.{on_ok_weaker}
use Rattle.assembler.proofs.PutLaws.{joined}
use Rattle.text_rows.proofs.ColumnLaws.{five_parts}
use Rattle.text_page.specs.Page.{bars_style, body_style, cells_style, greys_style, marked_style, row_style}
use Rattle.text_page.proofs.heading.put_style.Goals as goal

pub returns : goal.returns
returns c =
    on_ok_weaker c.put-6.result
    (λ last. joined c.args.out.now.items c.put.new.out.items c.put-6.new.out.items body_style (row_style ++ (cells_style ++ (greys_style ++ (bars_style ++ marked_style)))) c.in_ok-put.ensures
    (five_parts c.put.new.out.items row_style cells_style greys_style bars_style marked_style c.put-2.new.out.items c.put-3.new.out.items c.put-4.new.out.items c.put-5.new.out.items c.put-6.new.out.items
    c.in_ok-put-2.ensures c.in_ok-put-3.ensures c.in_ok-put-4.ensures c.in_ok-put-5.ensures last))
    c.put-6.ensures
