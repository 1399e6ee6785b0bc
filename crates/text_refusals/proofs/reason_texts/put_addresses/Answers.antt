use Rattle.std.proofs.Common.{codes}
use Rattle.std.proofs.lemmas.Result.{on_ok_weaker}
use Rattle.text_refusals.specs.Texts.{key_text}
use Rattle.text_rows.proofs.ColumnLaws.{four_parts}
use Rattle.text_refusals.proofs.reason_texts.put_addresses.Goals as goal

pub returns : goal.returns
returns c =
    let lines = c.args.words.now.lines in
    let extent = c.args.extent.now in
    on_ok_weaker c.put_key-3.result
    (four_parts c.args.out.now.items (codes "  [[loop]]\n") (key_text lines (codes "header") extent.header) (key_text lines (codes "first") extent.first)
    (key_text lines (codes "last") extent.last) c.put.new.out.items c.put_key.new.out.items c.put_key-2.new.out.items
    c.put_key-3.new.out.items c.in_ok-put.ensures c.in_ok-put_key.ensures c.in_ok-put_key-2.ensures)
    c.put_key-3.ensures
