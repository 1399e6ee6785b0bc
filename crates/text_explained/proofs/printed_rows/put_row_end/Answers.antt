use Rattle.std.proofs.Common.{◌∙◌, subst, sym}
use Rattle.std.proofs.lemmas.Result.{on_ok_weaker}
use Rattle.assembler.specs.ShownLines.{IsShown}
use Rattle.text_explained.specs.Printed.{IsTextOf}
use Rattle.text_explained.proofs.RowLaws.{end_written}
use Rattle.text_explained.proofs.printed_rows.put_row_end.Goals as goal

pub returns-in_ok-text-in-Text : goal.returns-in_ok-text-in-Text
returns-in_ok-text-in-Text c =
    let row = c.args.row.now in
    let shown : IsTextOf row.at row.line c.deref.result.now = rw c.in-Text.is (c.deref.ensures.value ∙ c.in_ok-text-in-Text.ensures) in
    on_ok_weaker c.put_cut.result (end_written c.args.room row c.deref.result.now c.args.out.now.items c.put_cut.new.out.items shown) c.put_cut.ensures

pub returns-in-Word : goal.returns-in-Word
returns-in-Word c =
    let row = c.args.row.now in
    let line : IsShown c.in-Word.word row.at c.items.result.now = subst (IsShown c.in-Word.word row.at) (sym c.items.ensures.bytes) c.disassemble-line.ensures in
    let shown : IsTextOf row.at row.line c.items.result.now = rw c.in-Word.is line in
    on_ok_weaker c.put_cut-in-Word.result (end_written c.args.room row c.items.result.now c.args.out.now.items c.put_cut-in-Word.new.out.items shown) c.put_cut-in-Word.ensures
