use Rattle.std.proofs.lemmas.Result.{on_ok_weaker}
use Rattle.assembler.proofs.PutLaws.{three}
use Rattle.text_draft.proofs.statement_text.Sheet.put_stretch_list.Goals as goal

pub returns : goal.returns
returns c =
    on_ok_weaker c.put-2.result (three c.args.out.now.items _ _ _ c.in_ok-put.ensures c.in_ok-put_each_stretch.ensures) c.put-2.ensures
