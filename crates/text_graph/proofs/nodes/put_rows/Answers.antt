use Rattle.std.proofs.Common.{◌++◌, flat_map}
use Rattle.text_rows.proofs.ColumnLaws.{item_more}
use Rattle.text_graph.specs.Parts.{scene_of}
use Rattle.text_graph.specs.Text.{row}
use Rattle.text_graph.proofs.DrawLaws.{items_end}
use Rattle.text_graph.proofs.nodes.put_rows.Goals as goal

pub loop-number-preserved : goal.loop-number-preserved
loop-number-preserved c =
    let f = row (scene_of c.args.drawn) in
    let numbers = c.args.numbers.now in
    item_more f numbers c.loop-number.number-index 0 c.loop-number.out.items c.put_row.new.out.items
    (c.args.out.now.items ++ flat_map f numbers) c.loop-number.invariant c.loop-number-test.true c.in_ok-put_row.ensures

pub returns : goal.returns
returns c =
    let f = row (scene_of c.args.drawn) in
    let numbers = c.args.numbers.now in
    items_end f numbers c.loop-number.number-index c.loop-number.out.items (c.args.out.now.items ++ flat_map f numbers) c.loop-number.invariant c.loop-number-test.false
