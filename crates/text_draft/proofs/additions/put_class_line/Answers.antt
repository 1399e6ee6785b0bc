use Rattle.std.proofs.Common.{◌∙◌, ◌++◌, ap, codes}
use Rattle.std.proofs.lemmas.Result.{on_ok_weaker}
use Rattle.assembler.proofs.PutLaws.{three}
use Rattle.statement.specs.Statement.{class_name}
use Rattle.text_draft.specs.DraftText.{ground_text, written}
use Rattle.text_draft.proofs.additions.put_class_line.Goals as goal

pub returns : goal.returns
returns c =
    let class = c.args.class in
    let basis = c.args.basis in
    let mark = codes "\"" in
    let last = codes "\n" in
    on_ok_weaker c.put-4.result
    (λ ended. three c.args.out.now.items (codes "class = \"") (class_name (written class basis)) (mark ++ (ground_text class basis ++ last)) c.in_ok-put.ensures
    (c.in_ok-put-2.ensures ∙ ap (λ t. c.put.new.out.items ++ t) (c.as_bytes.ensures.value ∙ c.class_name.ensures ∙ ap (λ k. class_name k) c.written.ensures))
    (three c.put-2.new.out.items mark (ground_text class basis) last c.in_ok-put-3.ensures c.in_ok-put_ground.ensures ended))
    c.put-4.ensures
