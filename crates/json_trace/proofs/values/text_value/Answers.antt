use Rattle.std.proofs.Common.{sym, subst}
use Rattle.assembler.specs.ShownLines.{IsShown}
use Rattle.text_trace.proofs.AsciiLaws.{shown_utf8}
use Rattle.json_trace.proofs.values.text_value.Goals as goal

pub from_utf8_unchecked-requires : goal.from_utf8_unchecked-requires
from_utf8_unchecked-requires c =
    let word = c.in-Some.word in
    let shown = subst (IsShown word c.args.at) (sym c.items.ensures.bytes) c.disassemble-line.ensures in
    shown_utf8 word c.args.at c.items.result.now shown c.items.ensures.short
