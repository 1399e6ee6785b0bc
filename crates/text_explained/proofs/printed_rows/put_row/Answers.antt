use Rattle.std.proofs.Common.{◌≡◌, ◌-◌, arith, length, subst}
use Rattle.std.proofs.lemmas.Result.{on_ok_weaker}
use Rattle.asm_text.specs.Appended.{Appends}
use Rattle.text_explained.specs.Printed.{IsRowEnd}
use Rattle.text_explained.proofs.RowLaws.{row_written}
use Rattle.text_explained.proofs.printed_rows.put_row.Goals as goal

pub returns : goal.returns
returns c =
    let old = c.args.out.now in
    let mid = c.put_columns.new.out in
    let row = c.args.row.now in
    let layout = c.args.layout.now in
    let used = c.len.result - c.len-begun.result in
    let used_is : used ≡ length mid.items - length old.items = omega (arith, c.len.ensures, c.len-begun.ensures, mid.ok, old.ok) in
    on_ok_weaker c.put_row_end.result
    (λ adds. row_written layout row used old.items mid.items c.put_row_end.new.out.items c.in_ok-put_columns.ensures used_is
    (subst (λ room. Appends (IsRowEnd room row) mid.items c.put_row_end.new.out.items) c.saturating_sub.ensures adds))
    c.put_row_end.ensures
