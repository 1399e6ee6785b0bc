use Rattle.std.proofs.lemmas.Result.{on_ok_weaker}
use Rattle.text_refusals.proofs.TextLaws.{entered}
use Rattle.text_refusals.proofs.reason_texts.put_entry.Goals as goal

pub returns-in_ok-put_under-in-Some : goal.returns-in_ok-put_under-in-Some
returns-in_ok-put_under-in-Some c =
    on_ok_weaker c.put_under-in-Some.result
    (entered c.args.words.now c.args.entry.now.place c.args.entry.now.edge c.in-Some.edge c.args.out.now.items c.put_under.new.out.items
    c.put_under-in-Some.new.out.items c.in-Some.is c.in_ok-put_under-in-Some.ensures)
    c.put_under-in-Some.ensures
