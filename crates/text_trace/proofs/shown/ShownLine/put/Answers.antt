use Rattle.std.proofs.Common.{◌≤◌, length, take, arith}
use Rattle.std.proofs.lemmas.List.{length-take}
use Rattle.text_trace.proofs.AsciiLaws.{shown_utf8}
use Rattle.text_trace.proofs.shown.ShownLine.put.Goals as goal

pub from_utf8_unchecked-requires : goal.from_utf8_unchecked-requires
from_utf8_unchecked-requires c =
    let row = c.args.self.now in
    let short : length (take row.len row.bytes) ≤ 64 =
    omega (arith, length-take row.len row.bytes, c.requires.right.fits) in
    shown_utf8 row.word row.at (take row.len row.bytes) c.requires.right.shown short
