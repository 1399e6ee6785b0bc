use Rattle.std.proofs.Common.{◌++◌, codes, get_or}
use Rattle.asm_text.specs.Hex.{hex8}
use Rattle.assembler.proofs.PutLaws.{joined}
use Rattle.text_graph.specs.Clusters.{call_names}
use Rattle.text_rows.proofs.ColumnLaws.{item_more}
use Rattle.text_graph.proofs.DrawLaws.{items_end}
use Rattle.text_graph.proofs.clusters.put_call_names.Goals as goal

pub loop-address-preserved : goal.loop-address-preserved
loop-address-preserved c =
    let old = c.loop-address.out.items in
    let a = get_or c.args.calls.now c.loop-address.address-index 0 in
    item_more (λ a. codes "_" ++ hex8 a) c.args.calls.now c.loop-address.address-index 0 old c.put_address.new.out.items
    (c.args.out.now.items ++ call_names c.args.calls.now) c.loop-address.invariant c.loop-address-test.true
    (joined old c.put.new.out.items c.put_address.new.out.items (codes "_") (hex8 a) c.in_ok-put.ensures c.in_ok-put_address.ensures)

pub returns : goal.returns
returns c =
    items_end (λ a. codes "_" ++ hex8 a) c.args.calls.now c.loop-address.address-index c.loop-address.out.items (c.args.out.now.items ++ call_names c.args.calls.now)
    c.loop-address.invariant c.loop-address-test.false
