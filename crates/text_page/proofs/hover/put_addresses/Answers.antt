use Rattle.std.proofs.Common.{◌++◌, flat_map}
use Rattle.text_rows.proofs.ColumnLaws.{item_more}
use Rattle.text_page.specs.Rows.{destination}
use Rattle.text_page.proofs.RowLaws.{items_end}
use Rattle.text_page.proofs.hover.put_addresses.Goals as goal

pub loop-at-preserved : goal.loop-at-preserved
loop-at-preserved c =
    item_more destination c.args.addresses.now c.loop-at.at-index 0 c.loop-at.out.items c.put_destination.new.out.items (c.args.out.now.items ++ flat_map destination c.args.addresses.now)
    c.loop-at.invariant c.loop-at-test.true c.in_ok-put_destination.ensures

pub returns : goal.returns
returns c =
    items_end destination c.args.addresses.now c.loop-at.at-index c.loop-at.out.items (c.args.out.now.items ++ flat_map destination c.args.addresses.now) c.loop-at.invariant c.loop-at-test.false
