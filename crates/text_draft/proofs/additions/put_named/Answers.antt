use Rattle.std.proofs.Common.{◌∙◌, ◌++◌, Some, ap, codes}
use Rattle.std.proofs.lemmas.Result.{on_ok_weaker}
use Rattle.text_draft.specs.DraftText.{candidates_text}
use Rattle.text_draft.specs.Targets.{any_left}
use Rattle.text_draft.proofs.additions.put_named.Goals as goal

pub returns : goal.returns
returns c =
    let found = c.args.found.now in
    let lines = c.args.sheet.now.lines.now in
    let out = c.args.out.now.items in
    let side = codes "above or below" in
    on_ok_weaker c.put_candidates.result
    (λ last. last
    ∙ ap (λ xs. out ++ candidates_text lines side c.any_left-open_left.result xs) c.deref-2.ensures.value
    ∙ ap (λ b. out ++ candidates_text lines side b found.candidates.items)
    (c.any_left-open_left.ensures ∙ ap (λ b. any_left b c.deref.result.now) c.of.ensures
    ∙ ap (λ ts. any_left (Some c.args.statement.now) ts) c.deref.ensures.value))
    c.put_candidates.ensures
