use Rattle.std.proofs.Common.{◌≡◌, ◌++◌, codes, arith, subst}
use Rattle.std.proofs.lemmas.Result.{on_ok_weaker}
use Rattle.asm_text.specs.Hex.{hex8}
use Rattle.text_draft.specs.Rows.{row}
use Rattle.assembler.proofs.PutLaws.{three}
use Rattle.text_draft.proofs.statement_text.Sheet.put_comment.Goals as goal

pub returns : goal.returns
returns c =
    let old = c.args.out.now.items in
    let new = c.end_row.new.out.items in
    let text = codes "# " ++ (hex8 c.args.at ++ c.args.words.now) in
    on_ok_weaker c.end_row.result
    (λ row_is. subst (λ l. new ≡ old ++ row text l) c.line.ensures
    (row_is old text
    (three old (codes "# ") (hex8 c.args.at) c.args.words.now c.in_ok-put.ensures
    c.in_ok-put_address.ensures c.in_ok-put-2.ensures)
    (omega (arith, c.len-start.ensures))))
    c.end_row.ensures
