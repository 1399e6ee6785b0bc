use Rattle.std.proofs.Common.{codes, decimal}
use Rattle.std.proofs.lemmas.Result.{on_ok_weaker}
use Rattle.assembler.proofs.PutLaws.{joined}
use Rattle.text_page.proofs.hover.put_begins_at.Goals as goal

pub returns : goal.returns
returns c =
    on_ok_weaker c.put_decimal.result
    (joined c.args.out.now.items c.put.new.out.items c.put_decimal.new.out.items (codes ", begins by tick ") (decimal c.args.ticks) c.in_ok-put.ensures)
    c.put_decimal.ensures
