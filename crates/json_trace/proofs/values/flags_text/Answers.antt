use Rattle.std.proofs.Common.{arith}
use Rattle.std.proofs.lemmas.Bool.Decides.{nat_tests}
use Rattle.text_trace.proofs.AsciiLaws.{ascii_utf8}
use Rattle.json_trace.proofs.values.flags_text.Goals as goal

pub from_utf8_unchecked-requires : goal.from_utf8_unchecked-requires
from_utf8_unchecked-requires c =
    ascii_utf8 _
    (grind (
      arith,
      nat_tests,
      c.flag_letter.ensures.ascii,
      c.flag_letter-2.ensures.ascii,
      c.flag_letter-3.ensures.ascii,
      c.flag_letter-4.ensures.ascii,
      c.flag_letter-5.ensures.ascii,
      c.flag_letter-6.ensures.ascii,
    ))
