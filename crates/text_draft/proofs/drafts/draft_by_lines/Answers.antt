use Rattle.std.proofs.lemmas.Result.{IfOk-weaker}
use Rattle.text_draft.proofs.drafts.draft_by_lines.Goals as goal

pub returns : goal.returns
returns c =
    IfOk-weaker c.draft_text.result _ _
    (λ text text_is. record {
      lines = c.args.lines.now;
      are_lines = c.requires;
      text_is = text_is;
    })
    c.draft_text.ensures
