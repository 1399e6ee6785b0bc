use Rattle.std.proofs.Common.{◌≡◌, ◌++◌, codes, arith, subst}
use Rattle.std.proofs.lemmas.Result.{on_ok_weaker}
use Rattle.assembler.proofs.PutLaws.{three}
use Rattle.text_rows.specs.Addresses.{name_text}
use Rattle.text_draft.specs.DraftText.{class_text}
use Rattle.text_draft.specs.Rows.{line_label, row}
use Rattle.text_draft.proofs.statement_text.Sheet.put_entry.Goals as goal

pub returns : goal.returns
returns c =
    let e = c.args.access.now in
    let old = c.args.out.now.items in
    let new = c.end_row.new.out.items in
    let front = codes "  {at = " in
    let back = class_text e.class e.basis in
    let line = c.line-line.result in
    on_ok_weaker c.end_row.result
    (λ row_is. subst (λ l. new ≡ old ++ row (front ++ (name_text (line_label l) e.at ++ back)) l)
    c.line-line.ensures (row_is old (front ++ (name_text (line_label line) e.at ++ back))
    (three old front (name_text (line_label line) e.at) back c.in_ok-put.ensures c.in_ok-put_name.ensures
    c.in_ok-put_class.ensures)
    (omega (arith, c.len-start.ensures))))
    c.end_row.ensures
