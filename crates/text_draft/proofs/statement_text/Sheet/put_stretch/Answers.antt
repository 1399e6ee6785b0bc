use Rattle.std.proofs.lemmas.Result.{on_ok_weaker}
use Rattle.assembler.proofs.PutLaws.{joined}
use Rattle.text_draft.proofs.statement_text.Sheet.put_stretch.Goals as goal

pub returns : goal.returns
returns c =
    on_ok_weaker c.put_element-2.result
    (joined c.args.out.now.items c.put_element.new.out.items c.put_element-2.new.out.items _ _ c.in_ok-put_element.ensures)
    c.put_element-2.ensures
