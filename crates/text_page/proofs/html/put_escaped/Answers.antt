use Rattle.std.proofs.Common.{◌++◌}
use Rattle.text_rows.proofs.ColumnLaws.{item_more}
use Rattle.text_page.specs.Html.{escape, escaped}
use Rattle.text_page.proofs.RowLaws.{items_end}
use Rattle.text_page.proofs.html.put_escaped.Goals as goal

pub loop-byte-preserved : goal.loop-byte-preserved
loop-byte-preserved c =
    item_more escape c.args.text.now c.loop-byte.byte-index 0 c.loop-byte.out.items c.put_byte.new.out.items (c.args.out.now.items ++ escaped c.args.text.now)
    c.loop-byte.invariant c.loop-byte-test.true c.in_ok-put_byte.ensures

pub returns : goal.returns
returns c =
    items_end escape c.args.text.now c.loop-byte.byte-index c.loop-byte.out.items (c.args.out.now.items ++ escaped c.args.text.now) c.loop-byte.invariant c.loop-byte-test.false
