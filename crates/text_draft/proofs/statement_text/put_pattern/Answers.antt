use Rattle.std.proofs.Common.{◌∙◌, ◌++◌, ap, codes}
use Rattle.std.proofs.lemmas.Result.{on_ok_weaker}
use Rattle.assembler.proofs.PutLaws.{three}
use Rattle.statement.specs.Statement.{class_name}
use Rattle.text_draft.proofs.statement_text.put_pattern.Goals as goal

pub returns : goal.returns
returns c =
    on_ok_weaker c.put-3.result
    (three c.args.out.now.items (codes "  # looks like \"") (class_name c.args.class) (codes "\"") c.in_ok-put.ensures
    (c.in_ok-put-2.ensures ∙ ap (λ t. c.put.new.out.items ++ t) (c.as_bytes.ensures.value ∙ c.class_name.ensures)))
    c.put-3.ensures
