use Rattle.std.proofs.Common.{◌≡◌, ◌++◌, ℕ, List, codes, replicate, arith, subst}
use Rattle.std.proofs.lemmas.Result.{on_ok_weaker}
use Rattle.text_draft.specs.Rows.{line_label, row}
use Rattle.text_rows.specs.Addresses.{name_text}
use Rattle.text_rows.proofs.ColumnLaws.{four_parts}
use Rattle.text_draft.proofs.statement_text.Sheet.put_place.Goals as goal

pub returns : goal.returns
returns c =
    let old = c.args.out.now.items in
    let new = c.end_row.new.out.items in
    let front : List ℕ = replicate c.args.indent 32 in
    let line = c.line-line.result in
    on_ok_weaker c.end_row.result
    (λ row_is. subst
    (λ l. new ≡ old ++ row (front ++ (c.args.key.now ++ (codes " = " ++ name_text (line_label l) c.args.at))) l)
    c.line-line.ensures
    (row_is old (front ++ (c.args.key.now ++ (codes " = " ++ name_text (line_label line) c.args.at)))
    (four_parts old front c.args.key.now (codes " = ") (name_text (line_label line) c.args.at)
    c.put_blanks.new.out.items c.put.new.out.items c.put-2.new.out.items c.put_name.new.out.items
    c.in_ok-put_blanks.ensures c.in_ok-put.ensures c.in_ok-put-2.ensures c.in_ok-put_name.ensures)
    (omega (arith, c.len-start.ensures))))
    c.end_row.ensures
