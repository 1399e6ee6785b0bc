use Rattle.std.proofs.Common.{◌∙◌, ◌++◌, ap, codes}
use Rattle.std.proofs.lemmas.Result.{on_ok_weaker}
use Rattle.assembler.proofs.PutLaws.{joined, three}
use Rattle.text_draft.specs.DraftOnText.{aside_head}
use Rattle.text_draft.specs.Forms.{hashed, key_name}
use Rattle.text_draft.proofs.additions.put_some_aside.Goals as goal

pub returns : goal.returns
returns c =
    let rows = hashed c.args.rows.now in
    on_ok_weaker c.put_hashed.result
    (λ last. three c.args.out.now.items (aside_head c.args.key) (key_name c.args.key) (codes " above:\n#" ++ rows)
    (c.in_ok-put.ensures ∙ ap (λ t. c.args.out.now.items ++ t) c.aside_head.ensures) (c.in_ok-put-2.ensures ∙ ap (λ t. c.put.new.out.items ++ t) c.name.ensures)
    (joined c.put-2.new.out.items c.put-3.new.out.items c.put_hashed.new.out.items (codes " above:\n#") rows c.in_ok-put-3.ensures last))
    c.put_hashed.ensures
