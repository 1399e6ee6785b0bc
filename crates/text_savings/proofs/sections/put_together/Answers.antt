use Rattle.std.proofs.Common.{◌∙◌, ◌++◌, ap, codes, decimal}
use Rattle.std.proofs.lemmas.Result.{on_ok_weaker}
use Rattle.assembler.proofs.PutLaws.{three}
use Rattle.text_rows.specs.Columns.{in_columns}
use Rattle.text_savings.specs.Savings.{together}
use Rattle.text_savings.proofs.sections.put_together.Goals as goal

pub returns : goal.returns
returns c =
    let old = c.args.out.now.items in
    on_ok_weaker c.put.result
    (three old (in_columns 9 (decimal (together c.args.list.now))) (in_columns 19 (codes "together at most")) (codes "\n")
    (c.in_ok-put_number.ensures ∙ ap (λ n. old ++ in_columns 9 (decimal n)) c.together.ensures) c.in_ok-put_right.ensures)
    c.put.ensures
