use Rattle.std.proofs.Common.{◌∙◌, ◌++◌, ◌+◌, ◌-◌, ◌≡◌, ◌≤◌, ℕ, List, ap, min, subst, sym, arith}
use Rattle.std.proofs.lemmas.Result.{on_ok_weaker}
use Rattle.assembler.specs.ShownLines.{IsShown}
use Rattle.text_rows.proofs.RowLaws.{capped_row, shown_columns, shown_row}
use Rattle.text_rows.proofs.address_rows.put_shown_row.Goals as goal

pub returns : goal.returns
returns c =
    let line = c.items.result.now in
    let shown = subst (IsShown c.args.word c.args.at) (sym c.items.ensures.bytes) c.disassemble-line.ensures in
    let most : 80 ≤ 18446744073709551615 = omega arith in
    let word_text = c.in_ok-put-2.ensures ∙ ap (λ (xs : List ℕ). c.put.new.out.items ++ xs) c.hex8.ensures in
    let columns =
    shown_columns c.args.at c.args.word c.args.out.now.items c.put_address.new.out.items c.put.new.out.items c.put-2.new.out.items c.put-3.new.out.items
    c.in_ok-put_address.ensures c.in_ok-put.ensures word_text c.in_ok-put-3.ensures in
    let columns_are : c.len.result - c.len-begun.result ≡ 22 = omega (arith, columns, c.len.ensures, c.len-begun.ensures) in
    let used = c.saturating_add.ensures ∙ ap (λ (n : ℕ). min (c.args.used + n) 18446744073709551615) columns_are in
    let row = capped_row (c.args.used + 22) 18446744073709551615 c.saturating_add.result line used most in
    on_ok_weaker c.put_cut_row.result
    (λ is. shown_row c.args.used c.args.at c.args.word line c.args.out.now.items c.put_address.new.out.items c.put.new.out.items c.put-2.new.out.items
    c.put-3.new.out.items c.put_cut_row.new.out.items shown c.in_ok-put_address.ensures c.in_ok-put.ensures
    word_text c.in_ok-put-3.ensures
    (is ∙ ap (λ (xs : List ℕ). c.put-3.new.out.items ++ xs) row))
    c.put_cut_row.ensures
