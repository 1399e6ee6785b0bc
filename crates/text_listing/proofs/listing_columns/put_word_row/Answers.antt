use Rattle.std.proofs.Common.{subst, sym}
use Rattle.std.proofs.lemmas.Result.{on_ok_weaker}
use Rattle.assembler.specs.ShownLines.{IsShown}
use Rattle.text_listing.proofs.ListLaws.{word_row}
use Rattle.text_listing.proofs.listing_columns.put_word_row.Goals as goal

pub returns : goal.returns
returns c =
    let line = c.items.result.now in
    let is = subst (IsShown c.args.word c.args.at) (sym c.items.ensures.bytes) c.disassemble-line.ensures in
    on_ok_weaker c.put_cut_row.result
    (word_row c.args.at c.args.word line c.args.out.now.items c.put_word_columns.new.out.items c.put.new.out.items
    c.put_cut_row.new.out.items is c.in_ok-put_word_columns.ensures c.in_ok-put.ensures)
    c.put_cut_row.ensures
