use Rattle.std.proofs.Common.{refl, subst, sym}
use Rattle.assembler.specs.ShownLines.{IsShown}
use Rattle.text_trace.proofs.LatelyLaws.{right_of}
use Rattle.text_trace.proofs.shown.ShownLine.of.Goals as goal

pub returns-clause-right : goal.returns-clause-right
returns-clause-right c =
    let line = c.items-items.result.now in
    let shown =
    subst (IsShown c.args.word c.args.at) (sym c.items-items.ensures.bytes) c.disassemble-line.ensures in
    right_of c.args.word c.args.at _ line c.copy_from_slice.new.self _ shown c.copy_from_slice.ensures.after
    refl c.items-items.ensures.short
