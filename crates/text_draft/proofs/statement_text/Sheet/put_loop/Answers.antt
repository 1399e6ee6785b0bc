use Rattle.std.proofs.lemmas.Result.{on_ok_weaker}
use Rattle.text_draft.proofs.FlatLaws.{loop_whole}
use Rattle.text_draft.proofs.statement_text.Sheet.put_loop.Goals as goal

pub returns : goal.returns
returns c =
    on_ok_weaker c.put_bound.result
    (loop_whole c.args.self.now.lines.now c.args.found.now c.args.out.now.items c.put.new.out.items
    c.put_blanks.new.out.items c.put-2.new.out.items c.put_place.new.out.items c.put_place-2.new.out.items
    c.put_place-3.new.out.items c.put_bound.new.out.items c.in_ok-put.ensures c.in_ok-put_blanks.ensures
    c.in_ok-put-2.ensures c.in_ok-put_place.ensures c.in_ok-put_place-2.ensures c.in_ok-put_place-3.ensures)
    c.put_bound.ensures
