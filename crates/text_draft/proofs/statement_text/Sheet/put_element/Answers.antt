use Rattle.std.proofs.Common.{◌≡◌, ◌++◌, arith, subst}
use Rattle.std.proofs.lemmas.Result.{on_ok_weaker}
use Rattle.text_draft.specs.Rows.{line_label, row}
use Rattle.text_rows.specs.Addresses.{name_text}
use Rattle.assembler.proofs.PutLaws.{three}
use Rattle.text_draft.proofs.statement_text.Sheet.put_element.Goals as goal

pub returns : goal.returns
returns c =
    let old = c.args.out.now.items in
    let new = c.end_row.new.out.items in
    let front = c.args.front.now in
    let back = c.args.back.now in
    let line = c.line-line.result in
    on_ok_weaker c.end_row.result
    (λ row_is. subst (λ l. new ≡ old ++ row (front ++ (name_text (line_label l) c.args.at ++ back)) l)
    c.line-line.ensures (row_is old (front ++ (name_text (line_label line) c.args.at ++ back))
    (three old front (name_text (line_label line) c.args.at) back c.in_ok-put.ensures c.in_ok-put_name.ensures
    c.in_ok-put-2.ensures)
    (omega (arith, c.len-start.ensures))))
    c.end_row.ensures
