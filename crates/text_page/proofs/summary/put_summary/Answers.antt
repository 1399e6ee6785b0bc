use Rattle.std.proofs.Common.{◌∙◌, ◌++◌, ap, codes}
use Rattle.std.proofs.lemmas.Result.{on_ok_weaker}
use Rattle.text_explained.specs.Columns.{share_text}
use Rattle.text_page.specs.Noting.{noted_in}
use Rattle.text_page.specs.Rows.{name_text, part_text, ticks_text, turns_text}
use Rattle.text_page.proofs.RowLaws.{six}
use Rattle.text_page.proofs.summary.put_summary.Goals as goal

pub returns : goal.returns
returns c =
    let f = c.args.fold in
    let n = noted_in c.args.notes.now in
    on_ok_weaker c.put_share.result
    (six c.args.out.now.items (part_text f.part) (name_text (n.label f.name) f.name) (turns_text f.part) (codes ": ") (ticks_text c.args.ticks) (share_text c.args.ticks c.args.bound)
    c.put.new.out.items c.put_name.new.out.items c.put_turns.new.out.items c.put-2.new.out.items c.put_ticks.new.out.items c.put_share.new.out.items
    (c.in_ok-put.ensures ∙ ap (λ xs. c.args.out.now.items ++ xs) c.part_text.ensures) (c.in_ok-put_name.ensures ∙ ap (λ l. c.put.new.out.items ++ name_text l f.name) c.label_at.ensures)
    c.in_ok-put_turns.ensures c.in_ok-put-2.ensures c.in_ok-put_ticks.ensures)
    c.put_share.ensures
