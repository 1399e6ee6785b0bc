use Rattle.std.proofs.Common.{subst, sym}
use Rattle.std.specs.Str.{IsUtf8}
use Rattle.text_trace.proofs.AsciiLaws.{digits_utf8}
use Rattle.text_trace.proofs.figures.hex_word.Goals as goal

pub from_utf8_unchecked-requires : goal.from_utf8_unchecked-requires
from_utf8_unchecked-requires c = subst IsUtf8 (sym c.hex8-digits.ensures) (digits_utf8 c.args.word)
