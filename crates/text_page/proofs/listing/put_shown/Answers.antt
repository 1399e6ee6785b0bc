use Rattle.std.proofs.Common.{refl, subst, sym}
use Rattle.std.proofs.lemmas.Result.{on_ok_weaker}
use Rattle.assembler.specs.ShownLines.{IsShown}
use Rattle.text_page.specs.Rows.{IsLineOf}
use Rattle.text_page.proofs.RowLaws.{line_put}
use Rattle.text_page.proofs.listing.put_shown.Goals as goal

pub returns-in-Text : goal.returns-in-Text
returns-in-Text c =
    let row = c.args.row.now in
    let shown : IsLineOf row.at row.line c.in-Text.line.text.now = rw c.in-Text.is refl in
    on_ok_weaker c.put_escaped.result (line_put row c.in-Text.line.text.now c.args.out.now.items c.put_escaped.new.out.items shown) c.put_escaped.ensures

pub returns-in-Word : goal.returns-in-Word
returns-in-Word c =
    let row = c.args.row.now in
    let line : IsShown c.in-Word.word row.at c.items.result.now = subst (IsShown c.in-Word.word row.at) (sym c.items.ensures.bytes) c.disassemble-line.ensures in
    let shown : IsLineOf row.at row.line c.items.result.now = rw c.in-Word.is line in
    on_ok_weaker c.put_escaped-in-Word.result (line_put row c.items.result.now c.args.out.now.items c.put_escaped-in-Word.new.out.items shown) c.put_escaped-in-Word.ensures
