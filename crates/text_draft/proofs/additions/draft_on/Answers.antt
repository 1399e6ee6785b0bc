use Rattle.std.proofs.lemmas.Result.{IfOk-weaker}
use Rattle.text_draft.proofs.additions.draft_on.Goals as goal

pub returns : goal.returns
returns c =
    IfOk-weaker c.text_on.result _ _
    (λ text text_is. record {
      lines = c.in_ok-lines.lines;
      are_lines = c.in_ok-lines.ensures;
      text_is = text_is;
    })
    c.text_on.ensures
