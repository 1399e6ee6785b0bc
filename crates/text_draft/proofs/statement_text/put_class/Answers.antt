use Rattle.std.proofs.Common.{◌∙◌, ◌++◌, ap, codes}
use Rattle.std.proofs.lemmas.Result.{on_ok_weaker}
use Rattle.assembler.proofs.PutLaws.{joined, three}
use Rattle.statement.specs.Statement.{class_name}
use Rattle.text_draft.specs.DraftText.{ground_text, written}
use Rattle.text_draft.proofs.statement_text.put_class.Goals as goal

pub returns : goal.returns
returns c =
    let class = c.args.class in
    let basis = c.args.basis in
    let back = codes "\"}," in
    on_ok_weaker c.put_ground.result
    (λ last. three c.args.out.now.items (codes ", class = \"") (class_name (written class basis)) (back ++ ground_text class basis) c.in_ok-put.ensures
    (c.in_ok-put-2.ensures ∙ ap (λ t. c.put.new.out.items ++ t) (c.as_bytes.ensures.value ∙ c.class_name.ensures ∙ ap (λ k. class_name k) c.written.ensures))
    (joined c.put-2.new.out.items c.put-3.new.out.items c.put_ground.new.out.items back (ground_text class basis) c.in_ok-put-3.ensures last))
    c.put_ground.ensures
